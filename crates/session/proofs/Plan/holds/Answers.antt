use Rattle.session.proofs.CodeLaws.{fewer_decides}
use Rattle.session.proofs.Plan.holds.Goals as goal

pub returns : goal.returns
returns c = rw c.min.ensures (fewer_decides c.args.self.now c.count-in_places.ensures c.count-in_sums.ensures)
