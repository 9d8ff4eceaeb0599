use borrow.Author.Tests.{lt-ltb}
use Rattle.area.proofs.Laws.{digits_length}
use Rattle.record.proofs.output.put_segment_units.Goals as goal

pub put_u8-requires : goal.put_u8-requires
put_u8-requires c = simp (lt-ltb _ _ c.if-i-units.true, digits_length) at c.requires
