use mathlib.Core.Path.{◌≡◌}
use Prim.Native.Nat.{◌-◌}
use Rattle.area.specs.Entries.{entries}
use Rattle.grid.specs.Rise.{all_rows, rows_by}
use Rattle.grid.proofs.rise.rows_rise.Given as goal

abbrev pub invariant-loop-r : goal.invariant-loop-r
invariant-loop-r l = l.all ≡ all_rows (rows_by l.words l.a l.b l.k (entries 4 l.given)) l.k (l.r - l.k)
