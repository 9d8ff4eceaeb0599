-- `ladder::rises::RisesLine::deliver` meets its contract. The invariant: the lower bound of the place reached is at most what is paid. Assumes nothing.
use mathlib.Core.Bool.{not}
use mathlib.Core.Path.{ap}
use native.Mathlib.Omega.{arith}
use Rattle.ladder.proofs.RiseLaws.{value_next}
use Rattle.ladder.proofs.PlanLaws.{delivers_all, delivers_here, reached_next, delivers_last, reached_rung}
use Rattle.ladder.proofs.rises.RisesLine.deliver.Goals as goal

pub returns-then-reaches : goal.returns-then-reaches
returns-then-reaches c =
    let x = c.args.self.now in
    rw c.cursor.ensures (delivers_all x.ladder x.bytes.now x.lies x.known _ _ c.top.ensures _ c.reaches.ensures c.if-reaches.true)

pub loop-c-init : goal.loop-c-init
loop-c-init c = let x = c.args.self.now in reached_rung x.ladder x.bytes.now x.lies x.known _ c.args.from c.requires _ c.of-c.ensures

pub overflow_add-value : goal.overflow_add-value
overflow_add-value c =
    let x = c.args.self.now in
    omega (arith, c.value_after.ensures, value_next x.ladder x.bytes.now x.lies x.known _ c.loop-c.invariant.at c.loop-c-test.true)

pub returns-then-not-reaches : goal.returns-then-not-reaches
returns-then-not-reaches c =
    let x = c.args.self.now in
    let here = delivers_here x.ladder x.bytes.now x.lies x.known _ _ c.loop-c.invariant c.loop-c-test.true _ c.value_after.ensures _ c.reaches-in-loop-c.ensures (ap not c.if-not-reaches.true) in
    rw c.cursor-then-not-reaches.ensures here

pub next-c-requires : goal.next-c-requires
next-c-requires c = (c.loop-c.invariant.at, c.loop-c-test.true)

pub loop-c-smaller : goal.loop-c-smaller
loop-c-smaller c = omega (arith, c.next-c.ensures.place_is)

pub loop-c-preserved : goal.loop-c-preserved
loop-c-preserved c =
    let x = c.args.self.now in
    reached_next x.ladder x.bytes.now x.lies x.known _ _ c.loop-c.invariant c.loop-c-test.true _ c.value_after.ensures _ c.reaches-in-loop-c.ensures _ c.next-c.ensures (ap not c.if-not-reaches.false)

pub returns : goal.returns
returns c =
    let x = c.args.self.now in
    rw c.cursor-2.ensures (delivers_last x.ladder x.bytes.now x.lies x.known _ _ c.loop-c.invariant c.loop-c-test.false)
