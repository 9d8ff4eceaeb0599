use Rattle.contract.specs.declared.Form.TheVariants.{Ladder, UnitPrices, Table}
use Rattle.record.proofs.CountLaws.{range_over, ladder_none, ladder_some}
use Rattle.record.proofs.counts.entry_count.Goals as goal

pub returns-in-Ladder : goal.returns-in-Ladder
returns-in-Ladder c =
    rw (c.in-Ladder.is, ladder_some c.args.header.count _ (rw c.from-n.ensures at c.if-n-ge1.true) (rw c.from-n.ensures at c.if-n-le1000.true), c.from-n.ensures)

pub returns-in_default : goal.returns-in_default
returns-in_default c = rw (c.in-Ladder.is, range_over Ladder c.args.header.count _ (rw c.from-n.ensures at c.if-n-le1000.false))

pub returns-in_default-2 : goal.returns-in_default-2
returns-in_default-2 c = rw (c.in-Ladder.is, ladder_none c.args.header.count _ (rw c.from-n.ensures at c.if-n-ge1.false))

pub returns-in_default-3 : goal.returns-in_default-3
returns-in_default-3 c = rw (c.in-UnitPrices.is, range_over UnitPrices c.args.header.count _ (rw c.from-n.ensures at c.if-n-le8.false))

pub returns-in_default-4 : goal.returns-in_default-4
returns-in_default-4 c = rw (c.in-Table.is, range_over Table c.args.header.count _ (rw c.from-n.ensures at c.if-n-le4.false))
