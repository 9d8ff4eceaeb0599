use Rattle.contract.specs.Table.{table_at}
use Rattle.record.proofs.Laws.{got, stop}
use Rattle.record.proofs.table.table_at.Goals as goal

pub returns-in_err-n : goal.returns-in_err-n
unfolding table_at
returns-in_err-n c = stop _ c.in_err-n.ensures c.from_residual.ensures.1

pub returns-in_err-after : goal.returns-in_err-after
unfolding table_at
returns-in_err-after c = rw (got c.in_ok-n.ensures) (stop _ c.in_err-after.ensures c.from_residual-in_err-after.ensures.1)

pub returns : goal.returns
unfolding table_at
returns c = rw (got c.in_ok-n.ensures, got c.in_ok-after.ensures) c.grids_at.ensures
