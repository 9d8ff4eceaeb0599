use mathlib.Core.Bool.{true, false}
use mathlib.Core.Path.{ap, ◌∙◌}
use Rattle.session.specs.Session.{finished_by}
use Rattle.yolkgorge.specs.SessionBytes.{session_in}
use Rattle.yolkgorge.proofs.ReplyLaws.{nowhere_short, nowhere_held}
use Rattle.yolkgorge.proofs.resting.nowhere.Goals as goal

pub returns-then-not-holds : goal.returns-then-not-holds
returns-then-not-holds c = nowhere_short c.args.plan.now (session_in c.args.state.now) c.holds.ensures c.if-not-holds.true

pub returns-then-finished : goal.returns-then-finished
returns-then-finished c =
    nowhere_held c.args.plan.now (session_in c.args.state.now) c.holds.ensures c.if-not-holds.false
    (c.finished.ensures ∙ ap (finished_by c.args.plan.now.count) c.take.ensures) true c.if-finished.true

pub returns : goal.returns
returns c =
    nowhere_held c.args.plan.now (session_in c.args.state.now) c.holds.ensures c.if-not-holds.false
    (c.finished.ensures ∙ ap (finished_by c.args.plan.now.count) c.take.ensures) false c.if-finished.false
