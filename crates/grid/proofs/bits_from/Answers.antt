use mathlib.Core.Path.{sym}
use Rattle.grid.specs.Map.{bits_from}
use Rattle.grid.proofs.MapLaws.{none_past}
use Rattle.grid.proofs.bits_from.Goals as goal

pub returns-in-Some : goal.returns-in-Some
unfolding bits_from
returns-in-Some c = rw (c.from.ensures, c.in-Some.ensures.lookup.3.1 0)

pub returns-in-None : goal.returns-in-None
returns-in-None c = sym (none_past _ _ c.in-None.ensures.lookup.3)
