use Rattle.area.specs.Entries.{num_at}
use Rattle.area.proofs.num.Goals as goal

pub returns-then-has_room : goal.returns-then-has_room
unfolding num_at
returns-then-has_room g c = rw (← c.has_room.ensures, c.if-has_room.true) c.load.ensures

pub returns-else-has_room : goal.returns-else-has_room
unfolding num_at
returns-else-has_room g c = rw (← c.has_room.ensures, c.if-has_room.false) c.zero.ensures
