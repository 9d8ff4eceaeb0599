use Rattle.contract.specs.Segments.{segment}
use Rattle.record.proofs.segments.segment.Goals as goal

pub returns-else-this-ne0 : goal.returns-else-this-ne0
unfolding segment
returns-else-this-ne0 g c = rw c.if-this-ne0.false c.cost_value.ensures
