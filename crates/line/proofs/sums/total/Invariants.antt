use mathlib.Core.Path.{◌≡◌}
use Prim.Native.Nat.{◌*◌, ◌≤◌, ◌^◌}
use lib.ListN.{length}
use Rattle.line.specs.Segments.{spread}
use Rattle.line.specs.Code.{sum_to}
use Rattle.line.proofs.sums.total.Given as goal

abbrev pub invariant-loop-i : goal.invariant-loop-i
invariant-loop-i l = (l.i ≤ length l.units) × (l.sum ≡ sum_to (spread l.units l.amounts) (sum_to l.units l.i)) × (l.sum ≤ l.i * 2 ^ 48)
