-- `plans::table::plan_rows` meets its contract, by the contracts of its callees. Assumes nothing.
use mathlib.Core.Path.{ap, ◌∙◌}
use native.Mathlib.Omega.{arith}
use Rattle.std.proofs.Common.{◌<◌, Ok}
use Rattle.plans.proofs.PlanLaws.{areas_short, work_short, all_room, table_asks, table_work, table_fits, table_plans, table_impossible}
use Rattle.plans.proofs.table.plan_rows.Goals as goal

pub returns-then-not-has_room : goal.returns-then-not-has_room
returns-then-not-has_room c = areas_short c.args.terms.now c.requires _ c.sum_units.ensures.value _ c.unwrap-u.ensures _ _ _ _ _ c.has_room.ensures c.if-not-has_room.true

pub overflow_mul-costs : goal.overflow_mul-costs
overflow_mul-costs c =
    let h = table_work c.args.terms.now c.requires c.unwrap-u.result in
    let b : c.unwrap-u.result < 524288 = rw c.unwrap-u.ensures at c.sum_units.ensures.bound in
    omega arith

pub returns-then-work-costs : goal.returns-then-work-costs
returns-then-work-costs c = work_short c.args.terms.now c.requires _ c.sum_units.ensures.value _ c.unwrap-u.ensures _ _ _ _ _ c.has_room.ensures c.if-work-costs.true c.if-not-has_room.false

pub plan-requires : goal.plan-requires
plan-requires c = table_asks c.args.terms.now c.requires

pub unwrap-requires : goal.unwrap-requires
unwrap-requires c =
    let h = all_room c.args.terms.now c.requires _ c.sum_units.ensures.value _ c.unwrap-u.ensures _ _ _ _ _ c.has_room.ensures c.if-work-costs.false c.if-not-has_room.false in
    table_fits c.args.terms.now c.requires _ _ _ _ _ _ _ h _ c.plan.ensures

pub returns-in-Some : goal.returns-in-Some
returns-in-Some c =
    let h = all_room c.args.terms.now c.requires _ c.sum_units.ensures.value _ c.unwrap-u.ensures _ _ _ _ _ c.has_room.ensures c.if-work-costs.false c.if-not-has_room.false in
    table_plans c.args.terms.now c.requires _ _ _ _ _ _ _ h _ c.plan.ensures (c.unwrap.ensures ∙ ap Ok c.in-Some.is) c.store.ensures

pub returns-in-None : goal.returns-in-None
returns-in-None c =
    let h = all_room c.args.terms.now c.requires _ c.sum_units.ensures.value _ c.unwrap-u.ensures _ _ _ _ _ c.has_room.ensures c.if-work-costs.false c.if-not-has_room.false in
    table_impossible c.args.terms.now c.requires _ _ _ _ _ _ _ h _ c.plan.ensures (c.unwrap.ensures ∙ ap Ok c.in-None.is)
