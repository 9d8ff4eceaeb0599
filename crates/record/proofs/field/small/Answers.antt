use Rattle.contract.specs.Field.{ranged}
use Rattle.record.proofs.Laws.{stop, ranged_over, ranged_got}
use Rattle.record.proofs.field.small.Goals as goal

pub returns-in_err-n : goal.returns-in_err-n
unfolding ranged
returns-in_err-n c = stop _ c.in_err-n.ensures c.from_residual.ensures.1

pub returns-in_err-in_range : goal.returns-in_err-in_range
returns-in_err-in_range c = ranged_over 1 _ _ _ c.in_ok-n.ensures c.in_err-in_range.ensures c.from_residual-in_err-in_range.ensures.1

pub returns : goal.returns
returns c = ranged_got 1 _ _ _ c.in_ok-n.ensures c.in_ok-in_range.ensures
