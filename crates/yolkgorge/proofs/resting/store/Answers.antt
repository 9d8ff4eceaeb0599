use mathlib.Core.Path.{◌∙◌}
use Rattle.yolkgorge.proofs.SessionLaws.{marks_stored, mark_is}
use Rattle.yolkgorge.proofs.resting.store.Goals as goal

pub returns : goal.returns
returns c =
    rw (c.from.ensures ∙ mark_is _, c.from-2.ensures ∙ mark_is _)
    (marks_stored c.args.state.now c.args.session.passed _ _ c.save.ensures.stored)
