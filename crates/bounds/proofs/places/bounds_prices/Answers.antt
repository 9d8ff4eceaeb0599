-- `bounds::places::bounds_prices` meets its contract: places count along the order that the bytes name. Assumes nothing.
use mathlib.Core.Bool.{not}
use mathlib.Core.Path.{ap, ◌∙◌}
use native.Mathlib.Omega.{arith}
use Rattle.planning.specs.Terms.{contract_in}
use Rattle.planning.proofs.AlongOrder.{along_place, along_bounds, along_last, prices_along, named_wrong, named_right}
use Rattle.planning.proofs.TermsLaws.{prices_last, prices_named}
use Rattle.bounds.proofs.BoundsLaws.{bounds_known, bounds_between, units_sum, bounds_above, bounds_unnamed, bounds_found}
use Rattle.bounds.proofs.places.bounds_prices.Goals as goal

pub returns-then-unwrap-place : goal.returns-then-unwrap-place
returns-then-unwrap-place c =
    let t = c.args.terms.now in
    bounds_above (contract_in t) _ c.args.order.now c.requires.eight (omega (arith, units_sum t _ _ c.sum_units.ensures.value c.unwrap.ensures c.requires.form, c.if-unwrap-place.true))

pub returns-then-not-names_each : goal.returns-then-not-names_each
returns-then-not-names_each c =
    let t = c.args.terms.now in
    bounds_unnamed (contract_in t) _ c.args.order.now c.requires.eight (omega (arith, units_sum t _ _ c.sum_units.ensures.value c.unwrap.ensures c.requires.form, c.if-unwrap-place.false))
    (prices_named t c.requires.form c.args.order.now ∙ named_wrong _ c.args.order.now t.few_items c.requires.eight c.names_each.ensures (ap not c.if-not-names_each.true))

pub unwrap-requires-2 : goal.unwrap-requires-2
unwrap-requires-2 c =
    let t = c.args.terms.now in
    let o = c.args.order.now in
    let named = named_right _ o t.few_items c.requires.eight c.names_each.ensures (ap not c.if-not-names_each.false) in
    let along = prices_along t c.requires.form o c.requires.eight named c.first_eight-named.ensures c.pick-us.ensures c.pick-cs.ensures c.pick-vs.ensures in
    let last = units_sum t _ _ c.sum_units.ensures.value c.unwrap.ensures c.requires.form in
    let all = along_last t c.requires.form o c.requires.eight named in
    bounds_known _ _ _ _ _ (along_place _ _ _ _ _ along _ (omega (arith, last, all, prices_last t c.requires.form, c.if-unwrap-place.false))) _ c.bounds.ensures

pub returns : goal.returns
returns c =
    let t = c.args.terms.now in
    let o = c.args.order.now in
    let named = named_right _ o t.few_items c.requires.eight c.names_each.ensures (ap not c.if-not-names_each.false) in
    let along = prices_along t c.requires.form o c.requires.eight named c.first_eight-named.ensures c.pick-us.ensures c.pick-cs.ensures c.pick-vs.ensures in
    let last = units_sum t _ _ c.sum_units.ensures.value c.unwrap.ensures c.requires.form in
    let all = along_last t c.requires.form o c.requires.eight named in
    let has = along_place _ _ _ _ _ along _ (omega (arith, last, all, prices_last t c.requires.form, c.if-unwrap-place.false)) in
    bounds_found (contract_in t) _ o c.requires.eight (omega (arith, last, c.if-unwrap-place.false))
    (prices_named t c.requires.form o ∙ named)
    (along_bounds _ _ _ _ _ along _ (bounds_between _ _ _ _ _ has _ c.bounds.ensures _ c.unwrap-2.ensures))
