use mathlib.Core.Path.{◌∙◌}
use Rattle.area.proofs.Laws.{copied}
use Rattle.area.proofs.numbers.U32Entry.save.Goals as goal

pub returns-clause-stored : goal.returns-clause-stored
returns-clause-stored c = copied 4 _ _ _ _ c.requires (c.copy_from_slice.ensures.after ∙ c.to_le_bytes.ensures)
