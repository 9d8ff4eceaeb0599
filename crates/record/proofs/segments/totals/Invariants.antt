use mathlib.Core.Path.{◌≡◌}
use Prim.Native.Nat.{◌+◌, ◌-◌, ◌*◌, ◌^◌, ◌≤◌}
use Rattle.record.specs.View.Segments.{sums, lifted}
use Rattle.record.proofs.segments.totals.Given as goal

abbrev pub invariant-loop-k : goal.invariant-loop-k
invariant-loop-k l =
    (lifted l.s (l.n - l.k) (record { at = l.c.at + 8 * l.k; units = l.c.units; cost = l.cost; value = l.value }) ≡ lifted l.s l.n (sums l.c))
    × ((l.cost ≤ l.c.cost + l.k * 2 ^ 32) × (l.value ≤ l.c.value + l.k * 2 ^ 32))
