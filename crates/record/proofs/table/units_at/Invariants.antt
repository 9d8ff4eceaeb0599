use mathlib.Core.Path.{◌≡◌}
use Prim.Native.Nat.{◌+◌, ◌-◌, ◌≤◌}
use lib.ListN.{length}
use Rattle.contract.specs.Table.{units_at}
use Rattle.record.proofs.table.units_at.Given as goal

abbrev pub invariant-loop-k : goal.invariant-loop-k
invariant-loop-k l = (units_at l.s (l.n - l._k) l.i ≡ units_at l.s l.n l.initial.i) × ((l.i ≡ l.initial.i + l._k) × (l.i ≤ length l.s))
