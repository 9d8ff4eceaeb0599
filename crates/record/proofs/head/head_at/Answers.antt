use Rattle.contract.specs.Field.{head_at}
use Rattle.record.proofs.Laws.{got, stop}
use Rattle.record.proofs.head.head_at.Goals as goal

pub returns-in_err-map : goal.returns-in_err-map
unfolding head_at
returns-in_err-map c = stop _ c.in_err-map.ensures c.from_residual.ensures.1

pub returns-in_err-form : goal.returns-in_err-form
unfolding head_at
returns-in_err-form c = rw (got c.in_ok-map.ensures) (stop _ c.in_err-form.ensures c.from_residual-in_err-form.ensures.1)

pub returns : goal.returns
unfolding head_at
returns c = rw (got c.in_ok-map.ensures, got c.in_ok-form.ensures) c.amounts.ensures
