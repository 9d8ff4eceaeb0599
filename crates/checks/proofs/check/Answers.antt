-- `checks::check` meets its contract, by what was found in the record. Assumes nothing.
use Rattle.std.proofs.lemmas.Result.{err_from_is_err_and}
use Rattle.record.proofs.FindLaws.{sought_refused}
use Rattle.checks.proofs.CheckLaws.{check_refused}
use Rattle.checks.proofs.check.Goals as goal

pub returns-in_err-l : goal.returns-in_err-l
returns-in_err-l c =
    let p = err_from_is_err_and c.from_residual.result c.from_residual.ensures.1 in
    rw (p.1, p.2) (check_refused _ c.args.count c.args.places.now c.args.sums.now c.args.order.now (sought_refused _ c.in_err-l.ensures))
