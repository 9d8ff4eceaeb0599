-- `yolkgorge::yolkgorge_plan_fewest_deliveries` meets its contract, by the promise of the planner. Assumes nothing.
use Rattle.exchange.specs.declared.Objective.{Objective}
use Rattle.planning.specs.Answer.{answer_of}
use Rattle.planning.specs.Areas.{Areas, plan_areas}
use Rattle.planning.specs.Promise.{ahead_along}
use Rattle.yolkgorge.proofs.NumberLaws.{count_fits}
use Rattle.yolkgorge.proofs.yolkgorge_plan_fewest_deliveries.Goals as goal

pub steps_or_refusal-requires : goal.steps_or_refusal-requires
steps_or_refusal-requires c = let x = c.args in let before : Areas = plan_areas x.places.now x.sums.now x.order.now in count_fits Objective.Deliveries (ahead_along x.bytes.now before) (answer_of c.plan_fewest_deliveries.result) before _ c.plan_fewest_deliveries.ensures c.well_formed.1.0.0
