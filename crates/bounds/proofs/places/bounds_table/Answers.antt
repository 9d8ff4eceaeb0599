-- `bounds::places::bounds_table` meets its contract. Assumes nothing.
use mathlib.Core.Bool.{not}
use mathlib.Core.Path.{ap, ◌∙◌}
use native.Mathlib.Omega.{arith}
use Rattle.contract.specs.Res.{ok}
use Rattle.planning.specs.Terms.{contract_in}
use Rattle.planning.proofs.AlongOrder.{named_wrong, named_right}
use Rattle.planning.proofs.TermsLaws.{table_named}
use Rattle.bounds.proofs.BoundsLaws.{row_bounds_by, row_above, row_within, bounds_above, bounds_unnamed, bounds_found}
use Rattle.bounds.proofs.places.bounds_table.Goals as goal

pub returns-then-terms-place : goal.returns-then-terms-place
returns-then-terms-place c = bounds_above (contract_in c.args.terms.now) _ c.args.order.now c.requires.eight (row_above c.args.terms.now c.requires.form _ c.if-terms-place.true)

pub returns-then-not-names_each : goal.returns-then-not-names_each
returns-then-not-names_each c =
    bounds_unnamed (contract_in c.args.terms.now) _ c.args.order.now c.requires.eight (row_within c.args.terms.now c.requires.form _ c.if-terms-place.false)
    (table_named c.args.terms.now c.requires.form c.args.order.now ∙ named_wrong 0 c.args.order.now (omega arith) c.requires.eight c.names_each.ensures (ap not c.if-not-names_each.true))

pub returns : goal.returns
returns c =
    bounds_found (contract_in c.args.terms.now) _ c.args.order.now c.requires.eight (row_within c.args.terms.now c.requires.form _ c.if-terms-place.false)
    (table_named c.args.terms.now c.requires.form c.args.order.now ∙ named_right 0 c.args.order.now (omega arith) c.requires.eight c.names_each.ensures (ap not c.if-not-names_each.false))
    (ap ok (c.row_bounds.ensures ∙ row_bounds_by c.args.terms.now c.requires.form c.args.order.now _))
