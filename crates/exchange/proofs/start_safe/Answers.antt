-- `exchange::start_safe` meets its contract. Assumes nothing.
use native.Mathlib.Omega.{arith}
use Rattle.exchange.proofs.TestLaws.{start_below, start_from}
use Rattle.exchange.proofs.start_safe.Goals as goal

pub returns-then-sum-from : goal.returns-then-sum-from
returns-then-sum-from c = start_below _ _ _ _ _ (omega (arith, c.if-sum-from.true))

pub returns : goal.returns
returns c =
    rw (c.from-sum.ensures, c.from-3.ensures, c.from-4.ensures) (start_from _ _ _ _ _ (omega (arith, c.if-sum-from.false)))
