use Rattle.area.specs.Entries.{put_at}
use Rattle.area.proofs.put.Goals as goal

pub returns-then-has_room : goal.returns-then-has_room
unfolding put_at
returns-then-has_room g c = rw (← c.has_room.ensures, c.if-has_room.true) c.save.ensures.stored

pub returns-else-has_room : goal.returns-else-has_room
unfolding put_at
returns-else-has_room g c = rw (← c.has_room.ensures, c.if-has_room.false)
