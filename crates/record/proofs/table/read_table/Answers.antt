use borrow.Author.Tests.{eq-eqb, ne_eqb}
use Rattle.contract.specs.Table.{table_body}
use Rattle.contract.specs.declared.Refusal.TheVariants.{Trailing}
use Rattle.record.proofs.Laws.{got, lost}
use Rattle.record.proofs.AnswerLaws.{refuses, refuses_on, sized_stop}
use Rattle.record.proofs.table.read_table.Goals as goal

pub returns-in_err-t : goal.returns-in_err-t
unfolding table_body
returns-in_err-t c = refuses_on _ _ _ (sized_stop _ _ (simp (lost c.in_err-t.ensures))) c.from_residual.ensures.1

pub returns-then-t-s : goal.returns-then-t-s
unfolding table_body
returns-then-t-s c = refuses _ _ Trailing (sized_stop _ _ (simp (got c.in_ok-t.ensures, ne_eqb _ _ c.if-t-s.true)))

pub returns : goal.returns
unfolding table_body
returns c = simp (got c.in_ok-t.ensures, eq-eqb _ _ c.if-t-s.false) c.read_layout.ensures
