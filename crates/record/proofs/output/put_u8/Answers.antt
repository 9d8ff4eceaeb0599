use mathlib.Core.Path.{refl}
use Rattle.area.specs.Entries.{digits}
use Rattle.record.proofs.output.put_u8.Goals as goal

pub returns : goal.returns
unfolding digits
returns c = record { stores = refl; next = refl }
