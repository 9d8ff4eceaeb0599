use mathlib.Core.Path.{refl, sym, ◌∙◌}
use mathlib.Core.Bool.{and-true}
use Rattle.area.specs.Entries.{entries}
use Rattle.record.proofs.TestLaws.{within_both, within_end}
use Rattle.record.proofs.rows.all_within.Goals as goal

pub loop-k-preserved : goal.loop-k-preserved
loop-k-preserved c =
    let cells = entries 4 c.args.cells.now in
    rw c.known.ensures (within_both cells c.loop-k.k (rw (← c.count-k-end.ensures) c.loop-k-test.true) c.loop-k.within refl ∙ c.loop-k.invariant)

pub returns : goal.returns
returns c =
    let cells = entries 4 c.args.cells.now in
    sym (rw (within_end cells c.loop-k.k (rw (← c.count-k-end.ensures) c.loop-k-test.false)) (and-true c.loop-k.within)) ∙ c.loop-k.invariant
