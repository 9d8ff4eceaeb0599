use native.Mathlib.Omega.{arith}
use Rattle.contract.specs.declared.Form.TheVariants.{UnitPrices, Table}
use Rattle.record.specs.View.Head.{head_of}
use Rattle.record.proofs.Laws.{got, lost}
use Rattle.record.proofs.FindLaws.{head_refused, head_found, finds_on}
use Rattle.record.proofs.find.Goals as goal

pub returns-in_err-found : goal.returns-in_err-found
returns-in_err-found c = finds_on _ _ _ (head_refused _ (lost c.in_err-found.ensures)) c.from_residual.ensures.1

pub returns-in-UnitPrices : goal.returns-in-UnitPrices
returns-in-UnitPrices c = head_found UnitPrices c.args.bytes.now (head_of c.in_ok-found.found) (got c.in_ok-found.ensures) c.in-UnitPrices.is (λ e. absurd (omega arith))

pub returns-in-Table : goal.returns-in-Table
returns-in-Table c = head_found Table c.args.bytes.now (head_of c.in_ok-found.found) (got c.in_ok-found.ensures) c.in-Table.is (λ e. absurd (omega arith))
