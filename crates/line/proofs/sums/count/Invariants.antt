use mathlib.Core.Path.{◌≡◌}
use Prim.Native.Nat.{◌*◌, ◌≤◌}
use lib.ListN.{length}
use Rattle.line.specs.Code.{sum_to}
use Rattle.line.proofs.sums.count.Given as goal

abbrev pub invariant-loop-u : goal.invariant-loop-u
invariant-loop-u l = (l.u-index ≤ length l.units) × (l.n ≡ sum_to l.units l.u-index) × (l.n ≤ l.u-index * 65535)
