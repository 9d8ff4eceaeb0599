-- `checks::check_ladder` meets its contract, by what was found in the record. Assumes nothing.
use Rattle.std.proofs.lemmas.Result.{err_from_is_err_and}
use Rattle.checks.proofs.CheckLaws.{check_short, check_safe, check_unsafe}
use Rattle.checks.proofs.check_ladder.Goals as goal

pub returns-in_err-plan : goal.returns-in_err-plan
returns-in_err-plan c =
    let p = err_from_is_err_and c.from_residual.result c.from_residual.ensures.1 in
    let (e, short) = c.in_err-plan.ensures in
    rw (p.1, p.2, e) (check_short _ c.args.count c.args.places.now c.args.sums.now c.args.order.now c.requires.says short)

pub returns-then-ladder_safe : goal.returns-then-ladder_safe
returns-then-ladder_safe c = check_safe _ c.args.count c.args.places.now c.args.sums.now c.args.order.now c.requires.says c.in_ok-plan.ensures c.ladder_safe.ensures c.if-ladder_safe.true

pub returns-else-ladder_safe : goal.returns-else-ladder_safe
returns-else-ladder_safe c = check_unsafe _ c.args.count c.args.places.now c.args.sums.now c.args.order.now c.requires.says c.in_ok-plan.ensures c.ladder_safe.ensures c.if-ladder_safe.false
