-- `along::plan_items` meets its contract, by the contracts of its callees. Assumes nothing.
use mathlib.Core.Path.{sym, ap, ◌∙◌}
use Rattle.std.proofs.Common.{Ok}
use Rattle.along.proofs.PlanLaws.{prices_room, prices_short, prices_impossible, prices_fit, prices_plans, prices_stuck}
use Rattle.along.proofs.plan_items.Goals as goal

pub returns-then-not-has_room : goal.returns-then-not-has_room
returns-then-not-has_room c = prices_short c.args.terms.now c.requires _ c.sum_units.ensures.value _ c.unwrap-u.ensures _ _ c.has_room.ensures _ c.if-not-has_room.true

pub returns-in_default : goal.returns-in_default
returns-in_default c = prices_impossible c.args.terms.now c.requires _ _ _ _ (sym (prices_room c.args.terms.now c.requires _ c.sum_units.ensures.value _ c.unwrap-u.ensures _ _ c.has_room.ensures) ∙ c.if-not-has_room.false) _ (c.choose.ensures _) c.in_default.is

pub unwrap-requires : goal.unwrap-requires
unwrap-requires c =
    prices_fit c.args.terms.now c.requires _ (c.choose.ensures _) _ c.in-Some.is _ _ _ c.pick-us.ensures c.pick-cs.ensures c.pick-vs.ensures _ _ _ c.args.order.now _ _
    (sym (prices_room c.args.terms.now c.requires _ c.sum_units.ensures.value _ c.unwrap-u.ensures _ _ c.has_room.ensures) ∙ c.if-not-has_room.false) _ c.plan.ensures

pub returns-in-None : goal.returns-in-None
returns-in-None c =
    prices_stuck c.args.terms.now c.requires _ (c.choose.ensures _) _ c.in-Some.is _ _ _ c.pick-us.ensures c.pick-cs.ensures c.pick-vs.ensures _ _ _ _ _ _
    (sym (prices_room c.args.terms.now c.requires _ c.sum_units.ensures.value _ c.unwrap-u.ensures _ _ c.has_room.ensures) ∙ c.if-not-has_room.false) _ c.plan.ensures (c.unwrap.ensures ∙ ap Ok c.in-None.is)

pub returns-in-Some-unwrap : goal.returns-in-Some-unwrap
returns-in-Some-unwrap c =
    prices_plans c.args.terms.now c.requires _ (c.choose.ensures _) _ c.in-Some.is _ _ _ c.pick-us.ensures c.pick-cs.ensures c.pick-vs.ensures _ _ _ _ _ _
    (sym (prices_room c.args.terms.now c.requires _ c.sum_units.ensures.value _ c.unwrap-u.ensures _ _ c.has_room.ensures) ∙ c.if-not-has_room.false) _ c.plan.ensures (c.unwrap.ensures ∙ ap Ok c.in-Some-unwrap.is) c.store.ensures
