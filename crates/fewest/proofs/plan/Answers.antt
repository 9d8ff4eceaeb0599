-- `fewest::plan` meets its contract, by the contracts of its callees. Assumes nothing.
use mathlib.Core.Path.{subst}
use Rattle.std.proofs.Common.{Ok}
use Rattle.std.proofs.lemmas.Result.{err_from_is_err_and}
use Rattle.record.specs.Find.{Finds}
use Rattle.record.proofs.FindLaws.{sought_refused}
use Rattle.planning.proofs.Records.{ladder_along, prices_along}
use Rattle.fewest.proofs.PlanLaws.{along_plans, record_refused, refused_plans}
use Rattle.fewest.proofs.plan.Goals as goal

pub returns-in_err-l : goal.returns-in_err-l
returns-in_err-l c =
    let p = err_from_is_err_and c.from_residual.result c.from_residual.ensures.1 in
    rw (p.1, p.2) (refused_plans c.args.bytes.now _ _ _ (record_refused _ _ (sought_refused _ c.in_err-l.ensures)))

pub returns-in-Ladder : goal.returns-in-Ladder
returns-in-Ladder c = along_plans c.args.bytes.now _ _ _ (ladder_along _ _ (subst (λ x. Finds c.args.bytes.now (Ok x)) c.in-Ladder.is c.in_ok-l.ensures)) _ c.plan_ladder.ensures

pub returns-in-UnitPrices : goal.returns-in-UnitPrices
returns-in-UnitPrices c = along_plans c.args.bytes.now _ _ _ (prices_along _ (subst (λ x. Finds c.args.bytes.now (Ok x)) c.in-UnitPrices.is c.in_ok-l.ensures)) _ c.plan_prices.ensures
