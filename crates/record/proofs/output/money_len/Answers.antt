use borrow.Author.Tests.{eq-eqb, ne_eqb}
use borrow.Author.Rules.{rules}
use Rattle.contract.proofs.Lengths.{money_length}
use Rattle.record.proofs.output.money_len.Goals as goal

pub returns-then-v-eq0 : goal.returns-then-v-eq0
returns-then-v-eq0 c = (simp (money_length, eq-eqb _ _ c.if-v-eq0.true), search rules)

pub returns-else-v-eq0 : goal.returns-else-v-eq0
returns-else-v-eq0 c = (simp (money_length, ne_eqb _ _ c.if-v-eq0.false), search rules)
