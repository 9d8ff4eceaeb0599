use native.Mathlib.Nat.{sub_self}
use Rattle.area.specs.Entries.{entries}
use Rattle.grid.specs.Rise.{all_rows, rows_by}
use Rattle.grid.proofs.RiseLaws.{all_turn}
use Rattle.grid.proofs.rise.rows_rise.Goals as goal

pub loop-r-init : goal.loop-r-init
unfolding all_rows
loop-r-init c = rw (sub_self c.args.k)

pub loop-r-preserved : goal.loop-r-preserved
loop-r-preserved c =
    let a = c.args in
    all_turn (rows_by a.words.now a.a a.b a.k (entries 4 a.given.now)) a.k c.loop-r.r c.loop-r.all c.loop-r.auto.r c.loop-r.invariant (rw c.row_rises-all.ensures)
