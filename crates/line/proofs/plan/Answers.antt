-- `line::plan` meets its contract, by the contracts of its callees. Assumes nothing.
use mathlib.Core.Path.{refl}
use Rattle.std.proofs.lemmas.Result.{err_from_is_err_and}
use Rattle.line.proofs.RunLaws.{suited, suits_too, unsuited_segments, unsuited_places, unsuited_sums}
use Rattle.line.proofs.plan.Goals.{then-count-most-via-then-count-most, then-count-most-via-else-count-most+then-count-most-2}
use Rattle.line.proofs.plan.Goals as goal

pub returns-in_err-all : goal.returns-in_err-all
returns-in_err-all c =
    let p = err_from_is_err_and c.from_residual.result c.from_residual.ensures.1 in
    rw p.1 (unsuited_segments _ _ _ _ _ c.in_err-all.ensures, (refl, refl))

pub returns-then-count-most : goal.returns-then-count-most
returns-then-count-most c = (
  elim c.then-count-most.branch [
    | then-count-most-via-then-count-most w ↦ unsuited_places _ _ _ _ _ _ c.in_ok-all.ensures c.count.ensures w.if-count-most.true
    | then-count-most-via-else-count-most+then-count-most-2 w ↦ unsuited_sums _ _ _ _ _ _ c.in_ok-all.ensures w.count-else-count-most.ensures w.if-count-most-2.true
  ],
  (refl, refl),
)

pub returns : goal.returns
returns c =
    let suiting = suited _ _ _ _ _ _ c.in_ok-all.ensures c.count.ensures c.if-count-most.false c.count-else-count-most.ensures c.if-count-most-2.false in
    suits_too _ _ suiting.0 _ _ _ _ _ c.plan_line.ensures
