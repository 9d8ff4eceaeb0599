-- `line::segments::SegmentsLine::deliver` meets its contract. The invariant: the lower bound of the place reached is at most what is paid. Assumes nothing.
use native.Mathlib.Omega.{arith}
use Rattle.line.proofs.SegmentLaws.{opened, in_units}
use Rattle.line.proofs.DealLaws.{some_units, low_sums, reached_on, stops_within, stops_here, stops_last}
use Rattle.line.proofs.segments.SegmentsLine.deliver.Goals as goal

pub loop-c-init : goal.loop-c-init
loop-c-init c = c.requires

pub slack-free-requires : goal.slack-free-requires
slack-free-requires c =
    let x = c.args.self.now in
    low_sums x.sides x.units.now x.costs.now x.values.now x.all x.known _ _ c.loop-c.invariant

pub returns-then-free-from : goal.returns-then-free-from
returns-then-free-from c =
    let x = c.args.self.now in
    stops_here x.sides x.units.now x.costs.now x.values.now x.all x.known _ _ (opened _ _ _ _ c.args.self.now.known _ c.loop-c.invariant.at c.loop-c-test.true) _ c.slack-free.ensures (rw c.from.ensures at c.if-free-from.true)

pub left-n-requires : goal.left-n-requires
left-n-requires c =
    let o = opened _ _ _ _ c.args.self.now.known _ c.loop-c.invariant.at c.loop-c-test.true in
    (in_units _ _ _ _ o, o.at.left o.more)

pub units_in-k-requires : goal.units_in-k-requires
units_in-k-requires c =
    let o = opened _ _ _ _ c.args.self.now.known _ c.loop-c.invariant.at c.loop-c-test.true in
    ((rw c.from.ensures at c.if-free-from.false), omega (arith, o.at.left o.more, c.left-n.ensures))

pub leap-c-requires : goal.leap-c-requires
leap-c-requires c = (opened _ _ _ _ c.args.self.now.known _ c.loop-c.invariant.at c.loop-c-test.true, omega (arith, c.left-n.ensures, c.units_in-k.ensures.within))

pub returns-then-c-segment : goal.returns-then-c-segment
returns-then-c-segment c =
    let x = c.args.self.now in
    stops_within x.sides x.units.now x.costs.now x.values.now x.all x.known _ _ (opened _ _ _ _ c.args.self.now.known _ c.loop-c.invariant.at c.loop-c-test.true) _ c.slack-free.ensures _ c.left-n.ensures _ c.units_in-k.ensures _ c.leap-c.ensures c.if-c-segment.true

pub loop-c-smaller : goal.loop-c-smaller
loop-c-smaller c =
    let o = opened _ _ _ _ c.args.self.now.known _ c.loop-c.invariant.at c.loop-c-test.true in
    let some = some_units _ _ _ _ c.units_in-k.ensures (rw c.from.ensures at c.if-free-from.false) (omega (arith, o.at.left o.more, c.left-n.ensures)) in
    omega (arith, o.at.left o.more, c.leap-c.ensures.place_is, c.left-n.ensures, some)

pub loop-c-preserved : goal.loop-c-preserved
loop-c-preserved c =
    let x = c.args.self.now in
    reached_on x.sides x.units.now x.costs.now x.values.now x.all x.known _ _ (opened _ _ _ _ c.args.self.now.known _ c.loop-c.invariant.at c.loop-c-test.true) _ c.slack-free.ensures _ c.left-n.ensures _ c.units_in-k.ensures _ c.leap-c.ensures

pub returns : goal.returns
returns c =
    let x = c.args.self.now in
    stops_last x.sides x.units.now x.costs.now x.values.now x.all x.known _ _ c.loop-c.invariant c.loop-c-test.false
