use Rattle.contract.specs.Field.{ranged}
use Rattle.record.proofs.Laws.{stop, ranged_over, ranged_got}
use Rattle.record.proofs.segments.segment_count.Goals as goal

pub returns-in_err-n : goal.returns-in_err-n
unfolding ranged
returns-in_err-n g c = rw c.if-this-ne0.false (stop _ c.in_err-n.ensures c.from_residual.ensures.1)

pub returns-in_err-in_range : goal.returns-in_err-in_range
returns-in_err-in_range g c = rw c.if-this-ne0.false (ranged_over 2 _ _ _ c.in_ok-n.ensures (rw c.from.ensures at c.in_err-in_range.ensures) c.from_residual-in_err-in_range.ensures.1)

pub returns : goal.returns
returns g c = rw c.if-this-ne0.false (ranged_got 2 _ _ _ c.in_ok-n.ensures (rw c.from.ensures at c.in_ok-in_range.ensures))
