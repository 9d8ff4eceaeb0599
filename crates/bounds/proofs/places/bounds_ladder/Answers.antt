-- `bounds::places::bounds_ladder` meets its contract, by what was found in the record. Assumes nothing.
use mathlib.Core.Bool.{not}
use mathlib.Core.Path.{ap}
use native.Mathlib.Omega.{arith}
use Rattle.contract.specs.Res.{ok}
use Rattle.record.specs.Find.{ladder_in}
use Rattle.planning.proofs.LadderFound.{lies, ladder_above, ladder_within}
use Rattle.planning.proofs.AlongOrder.{named_wrong, named_right}
use Rattle.bounds.proofs.BoundsLaws.{bounds_short, bounds_above, bounds_unnamed, bounds_found}
use Rattle.bounds.proofs.places.bounds_ladder.Goals as goal

pub returns-then-order-lt8 : goal.returns-then-order-lt8
returns-then-order-lt8 c = bounds_short (ladder_in c.args.bytes.now c.args.l) _ c.args.order.now c.if-order-lt8.true

pub returns-then-l-place : goal.returns-then-l-place
returns-then-l-place c = bounds_above (ladder_in c.args.bytes.now c.args.l) _ c.args.order.now c.if-order-lt8.false (ladder_above c.args.bytes.now c.args.l c.if-l-place.true)

pub returns-then-not-names_each : goal.returns-then-not-names_each
returns-then-not-names_each c = bounds_unnamed (ladder_in c.args.bytes.now c.args.l) _ c.args.order.now c.if-order-lt8.false (ladder_within c.args.bytes.now c.args.l c.if-l-place.false) (named_wrong 0 c.args.order.now (omega arith) c.if-order-lt8.false c.names_each.ensures (ap not c.if-not-names_each.true))

pub bounds-requires : goal.bounds-requires
bounds-requires c = rw c.ladder_of.ensures (lies c.args.bytes.now c.args.l c.requires, c.if-l-place.false)

pub returns : goal.returns
returns c = bounds_found (ladder_in c.args.bytes.now c.args.l) _ c.args.order.now c.if-order-lt8.false (ladder_within c.args.bytes.now c.args.l c.if-l-place.false) (named_right 0 c.args.order.now (omega arith) c.if-order-lt8.false c.names_each.ensures (ap not c.if-not-names_each.false)) (ap ok (rw c.ladder_of.ensures at c.bounds.ensures))
