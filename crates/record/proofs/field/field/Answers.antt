use native.Mathlib.Omega.{arith}
use Rattle.record.proofs.Laws.{read_field, read_short}
use Rattle.record.proofs.field.field.Goals as goal
use Rattle.record.proofs.field.field.Goals.{then-s-BYTES-via-then-s-BYTES, then-s-BYTES-via-else-s-BYTES+then-s-BYTES-2}

pub returns-then-s-BYTES : goal.returns-then-s-BYTES
returns-then-s-BYTES g c =
    read_short _ _ _ _ (
    elim c.then-s-BYTES.branch [
      | then-s-BYTES-via-then-s-BYTES w ↦ omega arith
      | then-s-BYTES-via-else-s-BYTES+then-s-BYTES-2 w ↦ omega arith
    ])

pub returns : goal.returns
returns g c = read_field _ _ _ _ (omega arith) c.load.ensures (omega arith)
