-- `bounds::by_form::bounds_other` meets its contract, by what was read. Assumes nothing.
use Rattle.std.proofs.lemmas.Result.{err_from_is_err_and}
use Rattle.contract.specs.Contract.{contract_of}
use Rattle.record.proofs.FindLaws.{other_none, other_whole}
use Rattle.planning.proofs.ReadLaws.{read_refused, read_accepted, read_stands}
use Rattle.bounds.proofs.BoundsLaws.{bounds_short, bounds_same, bounds_refused, bounds_read}
use Rattle.bounds.proofs.by_form.bounds_other.Goals as goal

pub returns-in_err-header : goal.returns-in_err-header
returns-in_err-header c =
    let p = err_from_is_err_and c.from_residual.result c.from_residual.ensures.1 in
    rw (p.1, p.2) (bounds_refused c.args.bytes.now _ _ (read_refused _ _ _ (other_whole _ c.requires) c.in_err-header.ensures))

pub returns-then-order-lt8 : goal.returns-then-order-lt8
returns-then-order-lt8 c =
    bounds_read c.args.bytes.now _ _ (read_accepted _ _ _ (other_whole _ c.requires) c.in_ok-header.ensures)
    (bounds_short (contract_of c.in_ok-header.header c.read.new.costs c.read.new.values) _ c.args.order.now c.if-order-lt8.true)

pub of-terms-requires-clause-stands : goal.of-terms-requires-clause-stands
of-terms-requires-clause-stands c = read_stands _ _ _ (other_whole _ c.requires) c.in_ok-header.ensures

pub of-terms-requires-clause-has_items : goal.of-terms-requires-clause-has_items
of-terms-requires-clause-has_items c = other_none _ c.requires _ (read_accepted _ _ _ (other_whole _ c.requires) c.in_ok-header.ensures)

pub returns-in-Table : goal.returns-in-Table
returns-in-Table c =
    bounds_read c.args.bytes.now _ _ (read_accepted _ _ _ (other_whole _ c.requires) c.in_ok-header.ensures) (bounds_same _ c.args.order.now c.of-terms.ensures.contract c.bounds_table.ensures)

pub returns-in_default : goal.returns-in_default
returns-in_default c =
    bounds_read c.args.bytes.now _ _ (read_accepted _ _ _ (other_whole _ c.requires) c.in_ok-header.ensures) (bounds_same _ c.args.order.now c.of-terms.ensures.contract c.bounds_prices.ensures)
