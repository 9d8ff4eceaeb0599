-- `line::segments::SegmentsLine::possible` meets its contract. The invariant: the start is safe and no gap was found so far. Assumes nothing.
use mathlib.Core.Bool.{not}
use mathlib.Core.Path.{ap, refl}
use native.Mathlib.Omega.{arith}
use Rattle.line.proofs.SegmentLaws.{opened, in_units}
use Rattle.line.proofs.DealLaws.{started, start_unsafe, clear_start, one_cost, one_value, gap_none, clear_next, clear_all}
use Rattle.line.proofs.segments.SegmentsLine.possible.Goals as goal

pub returns-then-not-start_safe : goal.returns-then-not-start_safe
returns-then-not-start_safe c = start_unsafe c.args.self.now.sides c.args.self.now.units.now c.args.self.now.costs.now c.args.self.now.values.now c.args.self.now.all c.args.self.now.known _ c.start_safe.ensures (ap not c.if-not-start_safe.true)

pub loop-c-init : goal.loop-c-init
loop-c-init c = clear_start c.args.self.now.sides c.args.self.now.units.now c.args.self.now.costs.now c.args.self.now.values.now c.args.self.now.all c.args.self.now.known (started _ _ _ _ _ c.args.self.now.known _ c.start_safe.ensures (ap not c.if-not-start_safe.false)) _ refl

pub left-requires : goal.left-requires
left-requires c =
    let o = (opened _ _ _ _ c.args.self.now.known _ c.loop-c.invariant.at c.loop-c-test.true) in
    (in_units _ _ _ _ o, o.at.left o.more)

pub leap-to-requires : goal.leap-to-requires
leap-to-requires c = ((opened _ _ _ _ c.args.self.now.known _ c.loop-c.invariant.at c.loop-c-test.true), omega (arith, c.left.ensures))

pub joins-requires : goal.joins-requires
joins-requires c = (one_value c.args.self.now.sides c.args.self.now.units.now c.args.self.now.costs.now c.args.self.now.values.now c.args.self.now.all c.args.self.now.known _ _ (opened _ _ _ _ c.args.self.now.known _ c.loop-c.invariant.at c.loop-c-test.true) _ c.left.ensures c.leap-to.ensures, one_cost c.args.self.now.sides c.args.self.now.units.now c.args.self.now.costs.now c.args.self.now.values.now c.args.self.now.all c.args.self.now.known _ _ (opened _ _ _ _ c.args.self.now.known _ c.loop-c.invariant.at c.loop-c-test.true) _ c.left.ensures c.leap-to.ensures)

pub returns-then-not-joins : goal.returns-then-not-joins
returns-then-not-joins c = gap_none c.args.self.now.sides c.args.self.now.units.now c.args.self.now.costs.now c.args.self.now.values.now c.args.self.now.all c.args.self.now.known _ _ (opened _ _ _ _ c.args.self.now.known _ c.loop-c.invariant.at c.loop-c-test.true) _ c.left.ensures c.leap-to.ensures _ c.joins.ensures (ap not c.if-not-joins.true)

pub loop-c-smaller : goal.loop-c-smaller
loop-c-smaller c =
    let l = c.loop-c.invariant.at.left (opened _ _ _ _ c.args.self.now.known _ c.loop-c.invariant.at c.loop-c-test.true).more in
    omega (arith, c.leap-to.ensures.place_is, c.left.ensures)

pub loop-c-preserved : goal.loop-c-preserved
loop-c-preserved c = clear_next c.args.self.now.sides c.args.self.now.units.now c.args.self.now.costs.now c.args.self.now.values.now c.args.self.now.all c.args.self.now.known _ _ (opened _ _ _ _ c.args.self.now.known _ c.loop-c.invariant.at c.loop-c-test.true) _ c.left.ensures c.leap-to.ensures _ c.joins.ensures c.loop-c.invariant (ap not c.if-not-joins.false)

pub returns : goal.returns
returns c = clear_all c.args.self.now.sides c.args.self.now.units.now c.args.self.now.costs.now c.args.self.now.values.now c.args.self.now.all c.args.self.now.known _ c.loop-c.invariant c.loop-c-test.false
