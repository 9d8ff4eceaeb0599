-- `ladder::bounds` meets its contract, by that of the line of its rises. Assumes nothing.
use mathlib.Core.Path.{ap, ◌∙◌}
use Rattle.exchange.specs.Deal.{Deal}
use Rattle.exchange.specs.Test.{bounds_at}
use native.Mathlib.Omega.{arith}
use Rattle.ladder.proofs.RiseLaws.{known, same_deal}
use Rattle.ladder.proofs.bounds.Goals as goal

pub invariant_of-rises : goal.invariant_of-rises
invariant_of-rises c = record { lies = c.requires.0; known = known _ _ c.requires.0 (omega (arith, c.well_formed)) (omega (arith, c.well_formed)) }

pub returns : goal.returns
returns c = c.bounds_line.ensures ∙ ap (λ (d : Deal). bounds_at d c.args.place) (same_deal c.args.l c.args.s.now)
