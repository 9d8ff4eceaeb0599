-- `along::plan_ladder` meets its contract, by the contracts of its callees. Assumes nothing.
use mathlib.Core.Path.{sym, ◌∙◌}
use lib.ListN.{replicate}
use Rattle.planning.proofs.Outcome.{room}
use Rattle.along.proofs.PlanLaws.{ladder_short, ladder_room, ladder_can, ladder_plans, ladder_impossible}
use Rattle.along.proofs.RoomLaws.{stored_eight}
use Rattle.along.proofs.plan_ladder.Goals as goal

pub returns-then-not-has_room : goal.returns-then-not-has_room
returns-then-not-has_room c = ladder_short _ c.args.bytes.now c.args.l c.requires _ (sym (ladder_room c.args.bytes.now c.args.l _ _ c.has_room.ensures) ∙ c.if-not-has_room.true)

pub plan-requires : goal.plan-requires
plan-requires c = ladder_can c.args.bytes.now c.args.l c.requires _ c.ladder_of.ensures _ _ c.args.order.now (sym (ladder_room c.args.bytes.now c.args.l _ _ c.has_room.ensures) ∙ c.if-not-has_room.false)

pub returns-in-None : goal.returns-in-None
returns-in-None c = ladder_impossible c.args.bytes.now c.args.l c.requires _ c.ladder_of.ensures _ _ c.args.order.now (sym (ladder_room c.args.bytes.now c.args.l _ _ c.has_room.ensures) ∙ c.if-not-has_room.false) c.args.aim _ _ _ c.plan.ensures c.in-None.is

pub returns-in-Some : goal.returns-in-Some
returns-in-Some c = ladder_plans c.args.bytes.now c.args.l c.requires _ c.ladder_of.ensures _ _ c.args.order.now (sym (ladder_room c.args.bytes.now c.args.l _ _ c.has_room.ensures) ∙ c.if-not-has_room.false) c.args.aim _ _ _ c.plan.ensures _ c.in-Some.is _ (stored_eight c.args.order.now (replicate 8 0) _ (room _ _ _ (sym (ladder_room c.args.bytes.now c.args.l _ _ c.has_room.ensures) ∙ c.if-not-has_room.false)).order c.store.ensures)
