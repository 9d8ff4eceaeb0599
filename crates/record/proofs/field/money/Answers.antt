use borrow.Author.Tests.{le-leb, lt-leb}
use Rattle.contract.specs.Field.{money}
use Rattle.record.proofs.Laws.{got, stop, is_zero, not_zero}
use Rattle.record.proofs.field.money.Goals as goal

pub returns-then-not-present : goal.returns-then-not-present
unfolding money
returns-then-not-present c = record { meets = simp c.if-not-present.true; known = tt }

pub returns-in_err-v : goal.returns-in_err-v
unfolding money
returns-in_err-v c = simp c.if-not-present.false (stop _ c.in_err-v.ensures c.from_residual.ensures.1)

pub returns-then-v-eq0 : goal.returns-then-v-eq0
unfolding money
returns-then-v-eq0 c = record { meets = simp (c.if-not-present.false, got c.in_ok-v.ensures, is_zero _ c.if-v-eq0.true); known = tt }

pub returns-then-v-gt-LIMIT : goal.returns-then-v-gt-LIMIT
unfolding money
returns-then-v-gt-LIMIT c = record { meets = simp (c.if-not-present.false, got c.in_ok-v.ensures, not_zero _ c.if-v-eq0.false, lt-leb _ _ c.if-v-gt-LIMIT.true); known = tt }

pub returns : goal.returns
unfolding money
returns c =
    record {
      meets = simp (c.if-not-present.false, got c.in_ok-v.ensures, not_zero _ c.if-v-eq0.false, le-leb _ _ c.if-v-gt-LIMIT.false);
      known = tt;
    }
