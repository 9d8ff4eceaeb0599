use mathlib.Core.Path.{sym}
use Rattle.area.proofs.Laws.{entries_length}
use Rattle.area.proofs.count.Goals as goal

pub returns : goal.returns
returns g c = rw c.BYTES.ensures (sym (entries_length _ c.args.area.now))
