-- `checks::by_form::check_other` meets its contract, by what was read. Assumes nothing.
use Rattle.std.proofs.lemmas.Result.{err_from_is_err_and}
use Rattle.record.proofs.FindLaws.{other_none, other_whole}
use Rattle.planning.proofs.ReadLaws.{read_refused, read_accepted, read_stands}
use Rattle.checks.proofs.CheckLaws.{check_refused, check_short, check_safe, check_unsafe, decides_same}
use Rattle.checks.proofs.by_form.check_other.Goals as goal

pub returns-in_err-header : goal.returns-in_err-header
returns-in_err-header c =
    let p = err_from_is_err_and c.from_residual.result c.from_residual.ensures.1 in
    rw (p.1, p.2) (check_refused _ c.args.count c.args.places.now c.args.sums.now c.args.order.now (read_refused _ _ _ (other_whole _ c.requires) c.in_err-header.ensures))

pub returns-in_err-plan : goal.returns-in_err-plan
returns-in_err-plan c =
    let p = err_from_is_err_and c.from_residual-in_err-plan.result c.from_residual-in_err-plan.ensures.1 in
    let (e, short) = c.in_err-plan.ensures in
    rw (p.1, p.2, e) (check_short _ c.args.count c.args.places.now c.args.sums.now c.args.order.now (read_accepted _ _ _ (other_whole _ c.requires) c.in_ok-header.ensures) short)

pub of-terms-requires-clause-stands : goal.of-terms-requires-clause-stands
of-terms-requires-clause-stands c = read_stands _ _ _ (other_whole _ c.requires) c.in_ok-header.ensures

pub of-terms-requires-clause-has_items : goal.of-terms-requires-clause-has_items
of-terms-requires-clause-has_items c = other_none _ c.requires _ (read_accepted _ _ _ (other_whole _ c.requires) c.in_ok-header.ensures)

pub returns-then-other_safe : goal.returns-then-other_safe
returns-then-other_safe c =
    check_safe _ c.args.count c.args.places.now c.args.sums.now c.args.order.now (read_accepted _ _ _ (other_whole _ c.requires) c.in_ok-header.ensures) c.in_ok-plan.ensures
    (decides_same c.in_ok-plan.plan c.of-terms.ensures.contract c.other_safe.ensures) c.if-other_safe.true

pub returns-else-other_safe : goal.returns-else-other_safe
returns-else-other_safe c =
    check_unsafe _ c.args.count c.args.places.now c.args.sums.now c.args.order.now (read_accepted _ _ _ (other_whole _ c.requires) c.in_ok-header.ensures) c.in_ok-plan.ensures
    (decides_same c.in_ok-plan.plan c.of-terms.ensures.contract c.other_safe.ensures) c.if-other_safe.false
