-- `line::arrived` meets its contract. Assumes nothing.
use borrow.Author.Tests.{eq-eqb, ne_eqb}
use Rattle.line.proofs.arrived.Goals as goal

pub returns-then-place-last : goal.returns-then-place-last
returns-then-place-last c = rw (eq-eqb _ _ c.if-place-last.true)

pub returns-else-place-last : goal.returns-else-place-last
returns-else-place-last c = rw (ne_eqb _ _ c.if-place-last.false)
