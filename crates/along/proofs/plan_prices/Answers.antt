-- `along::plan_prices` meets its contract, by what was read. Assumes nothing.
use native.Mathlib.Omega.{arith}
use Rattle.std.proofs.lemmas.Result.{err_from_is_err_and}
use Rattle.contract.specs.declared.Form.TheVariants.{UnitPrices}
use Rattle.record.proofs.FindLaws.{found_form, found_whole}
use Rattle.planning.proofs.ReadLaws.{read_refused, read_accepted, read_stands}
use Rattle.along.proofs.PlanLaws.{refused_found, accepted_found}
use Rattle.along.proofs.plan_prices.Goals as goal

pub returns-in_err-header : goal.returns-in_err-header
returns-in_err-header c =
    let p = err_from_is_err_and c.from_residual.result c.from_residual.ensures.1 in
    rw (p.1, p.2) (refused_found _ c.args.bytes.now _ _ (read_refused _ _ _ (found_whole UnitPrices c.args.bytes.now c.requires 8 (omega arith)) c.in_err-header.ensures))

pub of-terms-requires-clause-stands : goal.of-terms-requires-clause-stands
of-terms-requires-clause-stands c = read_stands _ _ _ (found_whole UnitPrices c.args.bytes.now c.requires 8 (omega arith)) c.in_ok-header.ensures

pub of-terms-requires-clause-has_items : goal.of-terms-requires-clause-has_items
of-terms-requires-clause-has_items c =
    let f = found_form UnitPrices c.args.bytes.now c.requires _ (read_accepted _ _ _ (found_whole UnitPrices c.args.bytes.now c.requires 8 (omega arith)) c.in_ok-header.ensures) in
    λ e. cc

pub plan_items-requires : goal.plan_items-requires
plan_items-requires c =
    rw c.of-terms.ensures.form (found_form UnitPrices c.args.bytes.now c.requires _ (read_accepted _ _ _ (found_whole UnitPrices c.args.bytes.now c.requires 8 (omega arith)) c.in_ok-header.ensures))

pub returns : goal.returns
returns c =
    accepted_found _ c.args.bytes.now _ _ _ _ (read_accepted _ _ _ (found_whole UnitPrices c.args.bytes.now c.requires 8 (omega arith)) c.in_ok-header.ensures) (rw c.of-terms.ensures.contract c.plan_items.ensures)
