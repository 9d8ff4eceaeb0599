use Rattle.search.proofs.PlanLaws.{can_walk}
use Rattle.search.proofs.find_plan.Goals as goal

pub walk-requires : goal.walk-requires
walk-requires c = can_walk c.in_ok-n.ensures c.requires.1
