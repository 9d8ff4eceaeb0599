-- `plans::plan` meets its contract, by the contracts of its callees. Assumes nothing.
use mathlib.Core.Path.{subst}
use Rattle.std.proofs.Common.{Ok}
use Rattle.std.proofs.lemmas.Result.{err_from_is_err_and}
use Rattle.record.specs.Find.{Finds}
use Rattle.record.proofs.FindLaws.{sought_refused}
use Rattle.planning.proofs.Records.{refused_plans, ladder_along, prices_along}
use Rattle.plans.proofs.PlanLaws.{settled}
use Rattle.plans.proofs.plan.Goals as goal

pub returns-in_err-l : goal.returns-in_err-l
returns-in_err-l c =
    let p = err_from_is_err_and c.from_residual.result c.from_residual.ensures.1 in
    rw (p.1, p.2) (refused_plans _ c.args.bytes.now _ _ (sought_refused _ c.in_err-l.ensures))

pub returns-in-Ladder : goal.returns-in-Ladder
returns-in-Ladder c =
    settled c.args.bytes.now (ladder_along _ _ (subst (λ x. Finds c.args.bytes.now (Ok x)) c.in-Ladder.is c.in_ok-l.ensures)) _ _ _ _ _ _ _ _ _ _ c.plan_ladder-answer.ensures c.settle.ensures

pub returns-in-UnitPrices : goal.returns-in-UnitPrices
returns-in-UnitPrices c =
    settled c.args.bytes.now (prices_along _ (subst (λ x. Finds c.args.bytes.now (Ok x)) c.in-UnitPrices.is c.in_ok-l.ensures)) _ _ _ _ _ _ _ _ _ _ c.plan_prices-answer.ensures c.settle-in-UnitPrices.ensures
