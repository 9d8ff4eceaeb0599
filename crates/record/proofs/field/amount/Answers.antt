use borrow.Author.Tests.{le-leb, lt-leb}
use Rattle.contract.specs.Field.{amount}
use Rattle.record.proofs.Laws.{got, stop}
use Rattle.record.proofs.field.amount.Goals as goal

pub returns-in_err-v : goal.returns-in_err-v
unfolding amount
returns-in_err-v c = stop _ c.in_err-v.ensures c.from_residual.ensures.1

pub returns-then-v-gt-LIMIT : goal.returns-then-v-gt-LIMIT
unfolding amount
returns-then-v-gt-LIMIT c = record { meets = simp (got c.in_ok-v.ensures, lt-leb _ _ c.if-v-gt-LIMIT.true); known = tt }

pub returns-then-from-sum : goal.returns-then-from-sum
unfolding amount
returns-then-from-sum c =
    let over = rw (c.from.ensures, c.from-2.ensures) at c.if-from-sum.true in
    record { meets = simp (got c.in_ok-v.ensures, le-leb _ _ c.if-v-gt-LIMIT.false, lt-leb _ _ over); known = tt }

pub returns : goal.returns
unfolding amount
returns c =
    let within = rw (c.from.ensures, c.from-2.ensures) at c.if-from-sum.false in
    rw c.from.ensures
    record { meets = simp (got c.in_ok-v.ensures, le-leb _ _ c.if-v-gt-LIMIT.false, le-leb _ _ within); known = (c.in_ok-v.ensures.known, within) }
