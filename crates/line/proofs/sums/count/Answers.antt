-- `line::sums::count` meets its contract. The invariant: n is the sum of the units before, each below 2 ^ 16. Assumes nothing.
use mathlib.Core.Path.{sym}
use native.Mathlib.Omega.{arith}
use native.Mathlib.Numerals.{add-one}
use Rattle.line.proofs.SegmentLaws.{sum_zero, sum_suc}
use Rattle.line.proofs.sums.count.Goals as goal

pub loop-u-init : goal.loop-u-init
loop-u-init c = (omega arith, sym (sum_zero _), omega arith)

pub loop-u-preserved : goal.loop-u-preserved
loop-u-preserved c =
    let i = c.loop-u.u-index in
    let u = c.type_inv.units i in
    rw (add-one i) (omega arith, omega (arith, sum_suc c.args.units.now i), omega (arith, u))
