-- `ladder::rises::RisesLine::advance` meets its contract. The invariant: the place is not behind the rung. Assumes nothing.
use native.Mathlib.Omega.{arith}
use Rattle.ladder.proofs.RiseLaws.{at_rung}
use Rattle.ladder.proofs.rises.RisesLine.advance.Goals as goal

pub loop-c-init : goal.loop-c-init
loop-c-init c =
    let x = c.args.self.now in
    (at_rung _ _ x.lies x.known c.args.from c.requires.at c.of-c.result c.of-c.ensures, omega (arith, c.of-c.ensures.0, c.requires.from))

pub next-c-requires : goal.next-c-requires
next-c-requires c = (c.loop-c.invariant.0, omega (arith, c.requires.within, c.args.self.now.known.units_are, c.loop-c-test.true))

pub loop-c-smaller : goal.loop-c-smaller
loop-c-smaller c = omega (arith, c.next-c.ensures.place_is, c.loop-c-test.true)

pub loop-c-preserved : goal.loop-c-preserved
loop-c-preserved c = (c.next-c.ensures.at, omega (arith, c.next-c.ensures.place_is, c.loop-c-test.true))

pub returns : goal.returns
returns c = rw c.cursor.ensures (record { at = c.loop-c.invariant.0; place_is = omega (arith, c.loop-c.invariant.1, c.loop-c-test.false) })
