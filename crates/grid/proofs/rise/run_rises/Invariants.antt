use mathlib.Core.Path.{◌≡◌}
use Prim.Native.Nat.{◌-◌, ◌≤◌}
use Rattle.area.specs.Entries.{entries}
use Rattle.grid.specs.Rise.{all_rows, not_below}
use Rattle.grid.proofs.rise.run_rises.Given as goal

abbrev pub invariant-loop-r : goal.invariant-loop-r
invariant-loop-r l = (l.r - 1 ≤ l.to - 1) × (l.rises ≡ all_rows (not_below 1 (entries 4 l.given)) 1 (l.r - 1))
