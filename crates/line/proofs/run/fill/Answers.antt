-- `line::run::fill` meets its contract. The invariant: n steps from the first state are written where there is room, the cursor stands after
-- them, and the end was not reached before. Assumes nothing.
use native.Mathlib.Omega.{arith}
use Rattle.line.proofs.DealLaws.{covered}
use Rattle.line.proofs.RunLaws.{going_start, going_next, along_far, along_arrives, along_low, not_yet}
use Rattle.line.proofs.run.fill.Goals as goal

pub loop-sides-init : goal.loop-sides-init
loop-sides-init g c = let x = g.L.Line.course c.args.line.now in going_start x.sides x.units x.costs x.values _ _ _ _ _ c.requires.1.at

pub returns-then-arrived : goal.returns-then-arrived
returns-then-arrived g c =
    let x = g.L.Line.course c.args.line.now in
    let k = g.met.L.Line.known c.args.line.now in
    let ends = rw (c.sides-sides.ensures, c.totals-all.ensures) at c.arrived.ensures in
    record {
      arrives = along_arrives x.sides x.units x.costs x.values x.all k c.loop-sides.invariant.along _ ends c.if-arrived.true;
      written = c.loop-sides.invariant.written;
    }

pub pay-sum-requires : goal.pay-sum-requires
pay-sum-requires g c = rw (c.sides-sides.ensures, c.totals-all.ensures) (covered _ _ _ _ _ (g.met.L.Line.known c.args.line.now) c.requires.0.start_safe)

pub deliver-to-requires : goal.deliver-to-requires
deliver-to-requires g c =
    let x = g.L.Line.course c.args.line.now in
    along_low x.sides x.units x.costs x.values x.all (g.met.L.Line.known c.args.line.now) c.loop-sides.invariant.along c.requires.0 c.requires.1.begins

pub overflow_add-at : goal.overflow_add-at
overflow_add-at g c =
    let x = g.L.Line.course c.args.line.now in
    let k = g.met.L.Line.known c.args.line.now in
    let far = along_far x.sides x.units x.costs x.values x.all k c.loop-sides.invariant.along _ (rw (c.sides-sides.ensures, c.totals-all.ensures) at c.arrived.ensures) c.if-arrived.false in
    omega (arith, not_yet x.sides x.units x.costs x.values x.all k c.loop-sides.invariant.along c.requires.0 c.requires.1.begins far, k.fit.units_fit)

pub overflow_add-at-in-loop-sides : goal.overflow_add-at-in-loop-sides
overflow_add-at-in-loop-sides g c =
    let x = g.L.Line.course c.args.line.now in
    let k = g.met.L.Line.known c.args.line.now in
    let far = along_far x.sides x.units x.costs x.values x.all k c.loop-sides.invariant.along _ (rw (c.sides-sides.ensures, c.totals-all.ensures) at c.arrived.ensures) c.if-arrived.false in
    omega (arith, not_yet x.sides x.units x.costs x.values x.all k c.loop-sides.invariant.along c.requires.0 c.requires.1.begins far, k.fit.units_fit)

pub overflow_add-n : goal.overflow_add-n
overflow_add-n g c =
    let x = g.L.Line.course c.args.line.now in
    let k = g.met.L.Line.known c.args.line.now in
    let far = along_far x.sides x.units x.costs x.values x.all k c.loop-sides.invariant.along _ (rw (c.sides-sides.ensures, c.totals-all.ensures) at c.arrived.ensures) c.if-arrived.false in
    omega (arith, not_yet x.sides x.units x.costs x.values x.all k c.loop-sides.invariant.along c.requires.0 c.requires.1.begins far, k.fit.units_fit)

pub loop-sides-smaller : goal.loop-sides-smaller
loop-sides-smaller g c =
    let x = g.L.Line.course c.args.line.now in
    let k = g.met.L.Line.known c.args.line.now in
    let far = along_far x.sides x.units x.costs x.values x.all k c.loop-sides.invariant.along _ (rw (c.sides-sides.ensures, c.totals-all.ensures) at c.arrived.ensures) c.if-arrived.false in
    let room = not_yet x.sides x.units x.costs x.values x.all k c.loop-sides.invariant.along c.requires.0 c.requires.1.begins far in
    omega (arith, room)

pub loop-sides-preserved : goal.loop-sides-preserved
loop-sides-preserved g c =
    let x = g.L.Line.course c.args.line.now in
    let k = g.met.L.Line.known c.args.line.now in
    let along = c.loop-sides.invariant.along in
    let far = along_far x.sides x.units x.costs x.values x.all k along _ (rw (c.sides-sides.ensures, c.totals-all.ensures) at c.arrived.ensures) c.if-arrived.false in
    let room = not_yet x.sides x.units x.costs x.values x.all k along c.requires.0 c.requires.1.begins far in
    going_next x.sides x.units x.costs x.values x.all k along c.loop-sides.invariant room far _ _ c.deliver-to.ensures
    (rw (c.sides-sides.ensures, c.totals-all.ensures) at c.pay-sum.ensures) _ _ c.store.ensures c.store-in-loop-sides.ensures
