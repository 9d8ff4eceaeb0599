use mathlib.Core.Path.{◌≡◌}
use Prim.Native.Nat.{◌≤◌}
use lib.ListN.{length, take}
use Rattle.grid.specs.Rows.{rows_of}
use Rattle.grid.proofs.row_count.Given as goal

abbrev pub invariant-loop-u : goal.invariant-loop-u
invariant-loop-u l = (l.u-index ≤ length l.units) × (l.rows ≡ rows_of (take l.u-index l.units)) × (l.rows ≤ 128)
