-- `checks::by_form::prices_safe` meets its contract: the items are followed in the order that the bytes name. Assumes nothing.
use mathlib.Core.Bool.{not}
use mathlib.Core.Path.{ap, ◌∙◌}
use Rattle.planning.specs.Terms.{contract_in}
use Rattle.planning.proofs.AlongOrder.{along_held, prices_along, named_right}
use Rattle.planning.proofs.TermsLaws.{prices_named}
use Rattle.checks.proofs.CheckLaws.{line_fits, line_judges, named, judges_along}
use Rattle.checks.proofs.by_form.prices_safe.Goals as goal

pub unwrap-requires : goal.unwrap-requires
unwrap-requires c =
    let t = c.args.terms.now in
    let b = c.args.plan.now in
    let named = named_right _ b.order.now t.few_items b.eight c.names_each.ensures (ap not c.if-not-names_each.false) in
    let along = prices_along t c.requires b.order.now b.eight named c.first_eight-named.ensures c.pick-us.ensures c.pick-cs.ensures c.pick-vs.ensures in
    line_fits _ _ _ _ _ _ _ (along_held _ _ _ _ _ along _ _ _ b.held) _ c.check.ensures

pub returns : goal.returns
returns c =
    let t = c.args.terms.now in
    let b = c.args.plan.now in
    let named_each = named_right _ b.order.now t.few_items b.eight c.names_each.ensures (ap not c.if-not-names_each.false) in
    let along = prices_along t c.requires b.order.now b.eight named_each c.first_eight-named.ensures c.pick-us.ensures c.pick-cs.ensures c.pick-vs.ensures in
    named (contract_in t) b (prices_named t c.requires b.order.now ∙ named_each)
    (judges_along along (line_judges _ _ _ _ _ _ _ (along_held _ _ _ _ _ along _ _ _ b.held) _ c.check.ensures _ c.unwrap.ensures))
