use mathlib.Core.Path.{sym, ◌∙◌}
use Rattle.area.proofs.Laws.{digits_length}
use Rattle.record.proofs.output.put_cell.Goals as goal

pub put-requires : goal.put-requires
put-requires c = simp (sym c.stands.ensures ∙ c.if-stands.true, digits_length) at c.requires
