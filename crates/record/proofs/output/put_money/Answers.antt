use borrow.Author.Tests.{eq-eqb, ne_eqb}
use Rattle.area.proofs.Laws.{digits_length}
use Rattle.contract.specs.Serialize.{money_bytes}
use Rattle.area.proofs.PutLaws.{puts_none}
use Rattle.record.proofs.output.put_money.Goals as goal

pub put-requires : goal.put-requires
unfolding money_bytes
put-requires c = simp (ne_eqb _ _ c.if-v-eq0.false, digits_length) at c.requires

pub returns-then-v-eq0 : goal.returns-then-v-eq0
unfolding money_bytes
returns-then-v-eq0 c = rw (eq-eqb _ _ c.if-v-eq0.true) (puts_none _ _)

pub returns-else-v-eq0 : goal.returns-else-v-eq0
unfolding money_bytes
returns-else-v-eq0 c = rw (ne_eqb _ _ c.if-v-eq0.false) c.put.ensures
