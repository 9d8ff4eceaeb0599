-- `ladder::rises::Rises::climbs` meets its contract. The invariant: the start is safe and no gap was found so far. Assumes nothing.
use mathlib.Core.Bool.{not}
use mathlib.Core.Path.{ap}
use native.Mathlib.Omega.{arith}
use Rattle.ladder.proofs.PlanLaws.{clear_bottom, clear_next, gap_none, clear_all}
use Rattle.ladder.proofs.rises.Rises.climbs.Goals as goal

pub loop-c-init : goal.loop-c-init
loop-c-init c = let x = c.args.self.now in clear_bottom x.ladder x.bytes.now x.lies x.known c.requires

pub next-to-requires : goal.next-to-requires
next-to-requires c = (c.loop-c.invariant.at, c.loop-c-test.true)

pub returns-then-not-meets : goal.returns-then-not-meets
returns-then-not-meets c =
    let x = c.args.self.now in
    gap_none x.ladder x.bytes.now x.lies x.known _ _ c.next-to.ensures _ c.meets.ensures c.loop-c.invariant.at c.loop-c-test.true (ap not c.if-not-meets.true)

pub loop-c-smaller : goal.loop-c-smaller
loop-c-smaller c = omega (arith, c.next-to.ensures.place_is)

pub loop-c-preserved : goal.loop-c-preserved
loop-c-preserved c =
    let x = c.args.self.now in
    clear_next x.ladder x.bytes.now x.lies x.known _ _ c.next-to.ensures _ c.meets.ensures c.loop-c.invariant (ap not c.if-not-meets.false)

pub returns : goal.returns
returns c = let x = c.args.self.now in clear_all x.ladder x.bytes.now x.lies x.known _ c.loop-c.invariant c.loop-c-test.false
