-- `line::segments::SegmentsLine::advance` meets its contract. The invariant: the place is not behind the cursor. Assumes nothing.
use native.Mathlib.Omega.{arith}
use Rattle.line.proofs.SegmentLaws.{in_units}
use Rattle.line.proofs.PlaceLaws.{ahead_open}
use Rattle.line.proofs.segments.SegmentsLine.advance.Goals as goal

pub left_before-requires : goal.left_before-requires
left_before-requires c =
    let o = ahead_open _ _ _ _ _ c.loop-c.invariant c.loop-c-test.true in
    (in_units _ _ _ _ o, o.at.left o.more, c.loop-c-test.true)

pub leap-c-requires : goal.leap-c-requires
leap-c-requires c = (ahead_open _ _ _ _ _ c.loop-c.invariant c.loop-c-test.true, c.left_before.ensures.0)

pub loop-c-smaller : goal.loop-c-smaller
loop-c-smaller c = omega (arith, c.leap-c.ensures.place_is, c.left_before.ensures)

pub loop-c-preserved : goal.loop-c-preserved
loop-c-preserved c =
    let i = c.loop-c.invariant in
    let n = c.leap-c.ensures in
    record { fit = i.fit; at = n.at; from = omega (arith, c.left_before.ensures); within = i.within }

pub returns : goal.returns
returns c =
    let i = c.loop-c.invariant in
    record { at = i.at; place_is = omega arith }
