-- `bounds::bounds` meets its contract, by what was found in the record. Assumes nothing.
use mathlib.Core.Path.{subst}
use Rattle.std.proofs.Common.{Ok}
use Rattle.std.proofs.lemmas.Result.{err_from_is_err_and}
use Rattle.record.specs.Find.{Finds}
use Rattle.record.proofs.FindLaws.{sought_refused}
use Rattle.bounds.proofs.BoundsLaws.{bounds_refused, bounds_read}
use Rattle.bounds.proofs.bounds.Goals as goal

pub returns-in_err-l : goal.returns-in_err-l
returns-in_err-l c =
    let p = err_from_is_err_and c.from_residual.result c.from_residual.ensures.1 in
    rw (p.1, p.2) (bounds_refused _ _ _ (sought_refused _ c.in_err-l.ensures))

pub returns-in-Ladder : goal.returns-in-Ladder
returns-in-Ladder c = bounds_read _ _ _ (subst (λ x. Finds c.args.bytes.now (Ok x)) c.in-Ladder.is c.in_ok-l.ensures).says c.bounds_ladder.ensures
