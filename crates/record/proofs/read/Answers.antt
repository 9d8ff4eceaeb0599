use Rattle.contract.specs.declared.Form.TheVariants.{Ladder, UnitPrices, Table}
use Rattle.record.specs.View.Head.{head_of}
use Rattle.record.proofs.AnswerLaws.{refuses_on, sized_stop, parse_form}
use Rattle.contract.specs.Parse.{parse, reading}
use Rattle.record.proofs.Laws.{got, lost}
use Rattle.record.proofs.read.Goals as goal

pub returns-in_err-h : goal.returns-in_err-h
unfolding parse reading
returns-in_err-h c = refuses_on _ _ _ (sized_stop _ _ (simp (lost c.in_err-h.ensures))) c.from_residual.ensures.1

pub returns-in-Ladder : goal.returns-in-Ladder
unfolding reading
returns-in-Ladder c = rw (parse_form c.args.bytes.now (head_of c.in_ok-h.h) Ladder (got c.in_ok-h.ensures) c.in-Ladder.is) c.read_segments.ensures

pub returns-in-UnitPrices : goal.returns-in-UnitPrices
unfolding reading
returns-in-UnitPrices c = rw (parse_form c.args.bytes.now (head_of c.in_ok-h.h) UnitPrices (got c.in_ok-h.ensures) c.in-UnitPrices.is) c.read_segments-in-UnitPrices.ensures

pub returns-in-Table : goal.returns-in-Table
unfolding reading
returns-in-Table c = rw (parse_form c.args.bytes.now (head_of c.in_ok-h.h) Table (got c.in_ok-h.ensures) c.in-Table.is) c.read_table.ensures
