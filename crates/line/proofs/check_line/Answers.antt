-- `line::check_line` meets its contract. The invariant: the entries before i are steps, and the cursor stands after them. Assumes nothing.
use mathlib.Core.Bool.{not}
use mathlib.Core.Path.{refl, ap, ◌∙◌}
use Rattle.line.proofs.CheckLaws.{brought, unsafe_start, passed_start, passed_next, passed_all, falls, above, refused}
use Rattle.line.proofs.check_line.Goals.{then-place-c-via-then-place-c, then-place-c-via-else-place-c+then-all-place}
use Rattle.line.proofs.check_line.Goals as goal

pub returns-then-not-start_safe : goal.returns-then-not-start_safe
returns-then-not-start_safe g c =
    let x = g.L.Line.course c.args.line.now in
    let b = brought x.units x.costs x.values _ _ _ x.all (g.met.L.Line.known c.args.line.now) c.requires.0 c.requires.1 in
    unsafe_start _ _ _ _ _ _ _ _ b _ c.start_safe.ensures (ap not c.if-not-start_safe.true)

pub loop-i-init : goal.loop-i-init
loop-i-init g c =
    let x = g.L.Line.course c.args.line.now in
    let b = brought x.units x.costs x.values _ _ _ x.all (g.met.L.Line.known c.args.line.now) c.requires.0 c.requires.1 in
    passed_start _ _ _ _ _ _ _ _ b _ c.start_safe.ensures (ap not c.if-not-start_safe.false) _ refl

pub returns-then-place-c : goal.returns-then-place-c
returns-then-place-c g c =
    let x = g.L.Line.course c.args.line.now in
    let b = brought x.units x.costs x.values _ _ _ x.all (g.met.L.Line.known c.args.line.now) c.requires.0 c.requires.1 in
    elim c.then-place-c.branch [
      | then-place-c-via-then-place-c w ↦ falls _ _ _ _ _ _ _ _ b c.loop-i.invariant c.loop-i-test.true (c.from-place.ensures ∙ c.known.ensures) c.known-sum.ensures w.if-place-c.true
      | then-place-c-via-else-place-c+then-all-place w ↦
          above _ _ _ _ _ _ _ _ b c.loop-i.invariant c.loop-i-test.true (c.from-place.ensures ∙ c.known.ensures) c.known-sum.ensures (rw c.totals-all.ensures at w.if-all-place.true)
    ]

pub returns-then-not-is_step : goal.returns-then-not-is_step
returns-then-not-is_step g c =
    let x = g.L.Line.course c.args.line.now in
    let b = brought x.units x.costs x.values _ _ _ x.all (g.met.L.Line.known c.args.line.now) c.requires.0 c.requires.1 in
    refused _ _ _ _ _ _ _ _ b c.loop-i.invariant c.loop-i-test.true (c.from-place.ensures ∙ c.known.ensures) c.known-sum.ensures
    c.if-place-c.false (rw c.totals-all.ensures at c.if-all-place.false) c.advance-to.ensures c.is_step.ensures (ap not c.if-not-is_step.true)

pub loop-i-preserved : goal.loop-i-preserved
loop-i-preserved g c =
    let x = g.L.Line.course c.args.line.now in
    let b = brought x.units x.costs x.values _ _ _ x.all (g.met.L.Line.known c.args.line.now) c.requires.0 c.requires.1 in
    passed_next _ _ _ _ _ _ _ _ b c.loop-i.invariant c.loop-i-test.true (c.from-place.ensures ∙ c.known.ensures) c.known-sum.ensures
    c.if-place-c.false (rw c.totals-all.ensures at c.if-all-place.false) c.advance-to.ensures c.is_step.ensures (ap not c.if-not-is_step.false)

pub returns : goal.returns
returns g c =
    let x = g.L.Line.course c.args.line.now in
    let b = brought x.units x.costs x.values _ _ _ x.all (g.met.L.Line.known c.args.line.now) c.requires.0 c.requires.1 in
    passed_all _ _ _ _ _ _ _ _ b c.loop-i.invariant c.loop-i-test.false (rw (c.totals-all.ensures, c.sides.ensures) at c.arrived.ensures)
