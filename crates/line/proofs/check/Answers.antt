-- `line::check` meets its contract, by the contracts of its callees. Assumes nothing.
use native.Mathlib.Omega.{arith}
use Rattle.std.proofs.lemmas.Result.{err_from_is_err_and}
use Rattle.line.proofs.CheckLaws.{unfit_segments, short_places, short_sums, checked}
use Rattle.line.proofs.check.Goals.{then-count-via-then-count, then-count-via-else-count+then-count-2}
use Rattle.line.proofs.check.Goals as goal

pub returns-in_err-all : goal.returns-in_err-all
returns-in_err-all c =
    let p = err_from_is_err_and c.from_residual.result c.from_residual.ensures.1 in
    rw p.1 (unfit_segments _ _ _ _ _ _ c.in_err-all.ensures)

pub returns-then-count : goal.returns-then-count
returns-then-count c =
    elim c.then-count.branch [
      | then-count-via-then-count w ↦ short_places _ _ _ _ _ _ c.count.ensures w.if-count.true
      | then-count-via-else-count+then-count-2 w ↦ short_sums _ _ _ _ _ _ w.count-else-count.ensures w.if-count-2.true
    ]

pub returns : goal.returns
returns c =
    checked _ _ _ _ _ _ _ _ c.in_ok-all.ensures (omega (arith, c.count.ensures, c.if-count.false))
    (omega (arith, c.count-else-count.ensures, c.if-count-2.false)) _ c.check_line.ensures
