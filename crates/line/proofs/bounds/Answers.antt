-- `line::bounds` meets its contract, by the contracts of its callees. Assumes nothing.
use Rattle.std.proofs.lemmas.Result.{err_from_is_err_and}
use Rattle.line.proofs.PlaceLaws.{unfit_place, no_place, place_here}
use Rattle.line.proofs.bounds.Goals as goal

pub returns-in_err-all : goal.returns-in_err-all
returns-in_err-all c =
    let p = err_from_is_err_and c.from_residual.result c.from_residual.ensures.1 in
    rw p.1 (unfit_place _ _ _ _ c.in_err-all.ensures)

pub returns-then-all-place : goal.returns-then-all-place
returns-then-all-place c = no_place _ _ _ _ _ c.in_ok-all.ensures c.if-all-place.true

pub returns : goal.returns
returns c = (place_here _ _ _ _ _ c.in_ok-all.ensures c.if-all-place.false, c.bounds_line.ensures)
