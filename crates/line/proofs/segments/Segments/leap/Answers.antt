-- `line::segments::Segments::leap` meets its contract, by the laws of units of one segment. Assumes nothing.
use native.Mathlib.Omega.{arith}
use Rattle.line.proofs.SegmentLaws.{place_on, cost_fits, value_fits, same_segment, next_segment}
use Rattle.line.proofs.segments.Segments.leap.Goals as goal

pub overflow_mul-cost : goal.overflow_mul-cost
overflow_mul-cost c = rw c.from-n.ensures (omega (arith, cost_fits _ _ _ _ c.requires.0 _ c.requires.1))

pub overflow_add-cost : goal.overflow_add-cost
overflow_add-cost c = rw c.from-n.ensures (omega (arith, cost_fits _ _ _ _ c.requires.0 _ c.requires.1))

pub overflow_mul-value : goal.overflow_mul-value
overflow_mul-value c = rw c.from-n.ensures (omega (arith, value_fits _ _ _ _ c.requires.0 _ c.requires.1))

pub overflow_add-value : goal.overflow_add-value
overflow_add-value c = rw c.from-n.ensures (omega (arith, value_fits _ _ _ _ c.requires.0 _ c.requires.1))

pub overflow_add-used : goal.overflow_add-used
overflow_add-used c = omega (arith, place_on _ _ _ _ c.requires.0 _ c.requires.1, c.requires.0.at.place_is, c.requires.0.fit.units_fit)

pub returns-then-used-self : goal.returns-then-used-self
returns-then-used-self c = rw (c.from-n.ensures, c.from.ensures) (same_segment _ _ _ _ c.requires.0 _ c.requires.1 c.if-used-self.true)

pub returns : goal.returns
returns c = rw (c.from-n.ensures, c.from.ensures) (next_segment _ _ _ _ c.requires.0 _ c.requires.1 c.if-used-self.false)
