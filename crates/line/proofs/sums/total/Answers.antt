-- `line::sums::total` meets its contract. The invariant: sum is the amount over the units of the first i segments, each below 2 ^ 48.
-- Assumes nothing.
use mathlib.Core.Path.{◌≡◌, sym, ap, ◌∙◌}
use native.Mathlib.Omega.{arith}
use native.Mathlib.Numerals.{add-one}
use lib.ListN.{length}
use Rattle.line.specs.Segments.{spread}
use Rattle.line.specs.Code.{sum_to}
use Rattle.line.proofs.SegmentLaws.{first_sum, segment_suc, total_sum}
use Rattle.line.proofs.sums.total.Goals as goal

pub loop-i-init : goal.loop-i-init
loop-i-init c = (omega arith, sym (first_sum _ _), omega arith)

pub loop-i-preserved : goal.loop-i-preserved
loop-i-preserved c =
    let i = c.loop-i.i in
    rw (add-one i)
    (omega arith, omega (arith, c.amount-sum.ensures, segment_suc c.args.units.now c.args.amounts.now c.requires.1 i), omega (arith, c.amount-sum.ensures))

pub returns : goal.returns
returns c =
    let us = c.args.units.now in
    let xs = c.args.amounts.now in
    let e : c.loop-i.i ≡ length us = omega arith in
    c.loop-i.invariant.1 ∙ ap (λ j. sum_to (spread us xs) (sum_to us j)) e ∙ sym (total_sum us xs c.requires.1)
