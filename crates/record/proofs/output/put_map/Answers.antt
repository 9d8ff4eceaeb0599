use mathlib.Core.Path.{refl}
use Rattle.record.proofs.PutLaws.{pasted}
use Rattle.record.proofs.output.put_map.Goals as goal

pub returns : goal.returns
returns c = record { stores = rw c.copy_from_slice.ensures.after (pasted c.args.out.now c.args.map.now c.args.at c.requires); next = refl }
