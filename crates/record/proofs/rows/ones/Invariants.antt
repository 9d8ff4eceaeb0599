use Prim.Native.Nat.{◌+◌, ◌*◌, ◌≤◌}
use mathlib.Core.Path.{◌≡◌}
use lib.ListN.{drop}
use Rattle.grid.specs.Map.{bit_count}
use Rattle.record.proofs.rows.ones.Given as goal

abbrev pub invariant-loop-byte : goal.invariant-loop-byte
invariant-loop-byte l = (l.n ≤ 8 * l.byte-index) × (l.n + bit_count (drop l.byte-index l.map) ≡ bit_count l.map)
