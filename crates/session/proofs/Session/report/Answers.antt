use mathlib.Core.Path.{refl}
use Rattle.session.proofs.CodeLaws.{report_short, report_finished, report_open}
use Rattle.session.proofs.Session.report.Goals as goal

pub returns-then-not-holds : goal.returns-then-not-holds
returns-then-not-holds c =
    rw (c.refused.ensures, report_short c.args.plan.now _ _ _ c.holds.ensures c.if-not-holds.true) (record { reply = refl; session = refl })

pub returns-then-finished : goal.returns-then-finished
returns-then-finished c =
    rw (
      c.refused-then-finished.ensures,
      report_finished c.args.plan.now c.args.self _ _ c.holds.ensures c.if-not-holds.false c.finished.ensures c.if-finished.true,
    ) (record { reply = refl; session = refl })

pub take-requires : goal.take-requires
take-requires c = report_open c.args.plan.now c.args.self c.args.side c.args.number c.holds.ensures c.if-not-holds.false c.finished.ensures c.if-finished.false

pub take-requires-in-Payment : goal.take-requires-in-Payment
take-requires-in-Payment c = report_open c.args.plan.now c.args.self c.args.side c.args.number c.holds.ensures c.if-not-holds.false c.finished.ensures c.if-finished.false
