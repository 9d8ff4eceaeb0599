use mathlib.Core.Path.{◌≡◌}
use lib.ListN.{length}
use Rattle.grid.specs.Adding.{Numbered}
use Rattle.grid.proofs.units.row_numbers.Given as goal

abbrev pub invariant-loop-r : goal.invariant-loop-r
invariant-loop-r l = (length l.held ≡ 128) × Numbered l.held l.r
