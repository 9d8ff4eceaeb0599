-- `text::put_steps` puts the lines of all steps.
use native.Mathlib.Omega.{arith}
use borrow.Author.Rules.{rules}
use Rattle.text.proofs.Fields.{lining_turn, lining_ends}
use Rattle.text.proofs.steps.put_steps.Goals as goal

pub loop-k-preserved : goal.loop-k-preserved
loop-k-preserved c = lining_turn c.requires c.loop-k.invariant (omega arith) c.entry-place.ensures c.entry-paid.ensures (search rules) (search rules) c.put_step-end.ensures

pub returns : goal.returns
returns c =
    record { puts = lining_ends c.requires c.loop-k.invariant (omega arith); upper_bound = omega (arith, c.loop-k.invariant.room) }
