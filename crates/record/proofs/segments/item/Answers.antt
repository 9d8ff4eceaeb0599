use mathlib.Core.Path.{◌≡◌}
use Prim.Native.Nat.{◌+◌}
use native.Mathlib.Omega.{arith}
use borrow.Author.Tests.{le-leb, lt-leb}
use Rattle.contract.specs.Segments.{segment}
use Rattle.record.proofs.Laws.{got, stop}
use Rattle.record.proofs.segments.item.Goals as goal

pub returns-in_err-n : goal.returns-in_err-n
unfolding segment
returns-in_err-n c = stop _ c.in_err-n.ensures c.from_residual.ensures.1

pub returns-then-units-gt1000 : goal.returns-then-units-gt1000
unfolding segment
returns-then-units-gt1000 c = record { meets = simp (got c.in_ok-n.ensures, lt-leb _ _ c.if-units-gt1000.true); known = tt }

pub returns : goal.returns
unfolding segment
returns c =
    let e : c.in_ok-n.at + 8 ≡ c.args.c.at + 9 = omega (arith, c.in_ok-n.ensures.known) in
    simp (got c.in_ok-n.ensures, le-leb _ _ c.if-units-gt1000.false) (rw e at c.cost_value.ensures)
