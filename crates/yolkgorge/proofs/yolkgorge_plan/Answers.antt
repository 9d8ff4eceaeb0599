-- `yolkgorge::yolkgorge_plan` meets its contract, by the promise of the planner. Assumes nothing.
use Rattle.exchange.specs.declared.Objective.{Objective}
use Rattle.planning.specs.Answer.{answer_of}
use Rattle.planning.specs.Areas.{Areas, areas}
use Rattle.planning.specs.Promise.{ahead}
use Rattle.yolkgorge.proofs.NumberLaws.{count_fits}
use Rattle.yolkgorge.proofs.yolkgorge_plan.Goals as goal

pub steps_or_refusal-requires : goal.steps_or_refusal-requires
steps_or_refusal-requires c =
    let x = c.args in
    let before : Areas = areas x.places.now x.sums.now x.order.now x.work.now in
    count_fits Objective.Steps (ahead x.bytes.now before) (answer_of c.plan.result) before _ c.plan.ensures c.well_formed.1.0.0
