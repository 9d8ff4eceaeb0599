use Rattle.grid.proofs.MapLaws.{bit_from}
use Rattle.grid.proofs.stands.Goals as goal

pub returns : goal.returns
returns c = rw (bit_from, c.bits_from.ensures)
