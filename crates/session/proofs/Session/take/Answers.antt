use mathlib.Core.Path.{refl}
use Rattle.session.proofs.CodeLaws.{report_unfit, report_marked, report_passed, marked_open, step_stands}
use Rattle.session.proofs.Session.take.Goals as goal

pub returns-then-not-fits : goal.returns-then-not-fits
returns-then-not-fits c =
    rw (c.refused.ensures, report_unfit c.args.plan.now c.args.self _ _ c.requires c.fits.ensures c.if-not-fits.true) (record { reply = refl; session = refl })

pub pass_over-self-requires-clause-here : goal.pass_over-self-requires-clause-here
pass_over-self-requires-clause-here c =
    rw c.step.ensures (step_stands _ _ (marked_open c.args.plan.now c.args.self c.args.side c.args.number c.requires c.fits.ensures c.if-not-fits.false c.mark-self.ensures c.done.ensures))

pub returns-then-done : goal.returns-then-done
returns-then-done c =
    rw (report_passed c.args.plan.now c.args.self _ _ c.requires c.fits.ensures c.if-not-fits.false c.mark-self.ensures c.done.ensures c.if-done.true c.pass_over-self.ensures)
    (record { reply = refl; session = refl })

pub returns-else-done : goal.returns-else-done
returns-else-done c =
    rw (report_marked c.args.plan.now c.args.self _ _ c.requires c.fits.ensures c.if-not-fits.false c.mark-self.ensures c.done.ensures c.if-done.false)
    (record { reply = refl; session = refl })
