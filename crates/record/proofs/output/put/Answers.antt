use Rattle.area.proofs.Laws.{digits_length}
use Rattle.record.proofs.output.put.Goals as goal

pub returns : goal.returns
returns g c = record { stores = c.save.ensures.stored; next = rw (digits_length, c.BYTES.ensures) }
