use mathlib.Core.Path.{◌∙◌}
use native.Mathlib.Omega.{arith}
use Rattle.area.proofs.Laws.{entry_room, entry_num}
use Rattle.area.proofs.known.Goals as goal

pub overflow_mul-k : goal.overflow_mul-k
overflow_mul-k g c = rw c.BYTES.ensures (omega (arith, entry_room _ _ _ c.requires g.met.T.Entry.some_bytes))

pub load-requires : goal.load-requires
load-requires g c = rw c.BYTES.ensures (omega (arith, entry_room _ _ _ c.requires g.met.T.Entry.some_bytes))

pub returns : goal.returns
returns g c = c.load.ensures ∙ rw c.BYTES.ensures (entry_num _ _ _ c.requires)
