-- `text::put_bytes` copies the bytes.
use mathlib.Core.Path.{refl}
use Rattle.area.proofs.Laws.{part_copied}
use Rattle.text.proofs.number.put_bytes.Goals as goal

pub returns : goal.returns
returns c = record { stores = rw c.copy_from_slice.ensures.after (part_copied _ _ _ _ c.requires refl); next = refl }
