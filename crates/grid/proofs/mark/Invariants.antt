use mathlib.Core.Path.{◌≡◌}
use Prim.Native.Nat.{◌-◌, ◌<◌}
use lib.ListN.{get_or}
use Rattle.grid.specs.Rows.{rising}
use Rattle.grid.specs.Cells.{row_map}
use Rattle.grid.proofs.mark.Given as goal

abbrev pub invariant-loop-r : goal.invariant-loop-r
invariant-loop-r l = (l.map ≡ row_map l.units l.cells l.r 16) × (l.rises ≡ rising l.units l.cells l.r) × (0 < l.r → l.last ≡ get_or l.cells (l.r - 1) 0)
