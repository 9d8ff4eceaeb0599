use mathlib.Core.Path.{◌≡◌}
use Prim.Native.Nat.{◌+◌, ◌≤◌}
use lib.ListN.{length}
use Rattle.contract.specs.Contract.{limit}
use Rattle.contract.specs.Valid.{total}
use Rattle.record.specs.View.Write.{each}
use Rattle.record.proofs.TestLaws.{total_from}
use Rattle.record.proofs.writer.total_within.Given as goal

abbrev pub invariant-loop-i : goal.invariant-loop-i
invariant-loop-i l =
    (l.total ≤ limit) × (Rattle.contract.specs.Valid.total (each l.units (length l.amounts)) l.amounts ≡ l.total + total_from l.units l.amounts l.i)
