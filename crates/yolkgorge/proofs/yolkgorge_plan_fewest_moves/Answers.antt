-- `yolkgorge::yolkgorge_plan_fewest_moves` meets its contract, by the promise of the planner. Assumes nothing.
use Rattle.exchange.specs.declared.Objective.{Objective}
use Rattle.planning.specs.Answer.{answer_of}
use Rattle.planning.specs.Areas.{Areas, plan_areas}
use Rattle.planning.specs.Promise.{ahead_along}
use Rattle.yolkgorge.proofs.NumberLaws.{count_fits}
use Rattle.yolkgorge.proofs.yolkgorge_plan_fewest_moves.Goals as goal

pub steps_or_refusal-requires : goal.steps_or_refusal-requires
steps_or_refusal-requires c = let x = c.args in let before : Areas = plan_areas x.places.now x.sums.now x.order.now in count_fits Objective.Moves (ahead_along x.bytes.now before) (answer_of c.plan_fewest_moves.result) before _ c.plan_fewest_moves.ensures c.well_formed.1.0.0
