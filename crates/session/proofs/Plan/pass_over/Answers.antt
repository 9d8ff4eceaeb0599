use mathlib.Core.Path.{◌≡◌, refl, sym, ◌∙◌}
use native.Mathlib.Omega.{arith}
use borrow.Author.Tests.{not-true, not-false}
use Rattle.session.specs.Code.{Open, steps_of}
use Rattle.session.specs.Session.{at_step}
use Rattle.session.proofs.CodeLaws.{settle_stays, settle_end, settle_next, stays_done, still_stands}
use Rattle.session.proofs.Plan.pass_over.Goals as goal

pub returns-then-ne : goal.returns-then-ne
returns-then-ne c =
    let o : Open c.args.self.now c.loop-i.i = record { held = c.requires.here.held; before_end = c.loop-i-test.true } in
    c.at_step.ensures
    ∙ sym (settle_stays _ _ _ (stays_done _ _ o c.loop-i.invariant.1 c.step.ensures ∙ not-true _ (sym c.ne.ensures ∙ c.if-ne.true)))
    ∙ c.loop-i.invariant.0

pub loop-i-preserved : goal.loop-i-preserved
loop-i-preserved c =
    let o : Open c.args.self.now c.loop-i.i = record { held = c.requires.here.held; before_end = c.loop-i-test.true } in
    let same = not-false _ (sym c.ne.ensures ∙ c.if-ne.false) in (
      settle_next _ _ _ _ refl c.loop-i-test.true (stays_done _ _ o c.loop-i.invariant.1 c.step.ensures ∙ same) ∙ c.loop-i.invariant.0,
      still_stands _ _ o c.loop-i.invariant.1 c.step.ensures same,
    )

pub returns : goal.returns
returns c =
    let e : c.loop-i.i ≡ c.args.self.now.count = omega arith in
    c.at_step-2.ensures ∙ sym (rw e at (settle_end (steps_of c.args.self.now) (at_step c.loop-i.i) c.args.self.now.count c.loop-i.i (omega arith))) ∙ rw e at c.loop-i.invariant.0
