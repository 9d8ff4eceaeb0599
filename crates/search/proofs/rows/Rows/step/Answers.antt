use mathlib.Core.Path.{refl}
use Rattle.search.proofs.NoteLaws.{noted}
use Rattle.search.proofs.rows.Rows.step.Goals as goal

pub returns : goal.returns
returns c = (record { next = _; offered = c.offer_all-n.ensures.0; noted = noted c.offer_all-n.ensures.1 c.note-end.ensures; moved = refl }, c.offer_all-n.ensures.1.list_long)
