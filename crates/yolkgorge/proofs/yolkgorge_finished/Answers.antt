-- `yolkgorge::yolkgorge_finished` meets its contract, by the contracts of its callees. Assumes nothing.
use mathlib.Core.Path.{◌∙◌}
use Rattle.yolkgorge.proofs.SessionLaws.{short_finished, finished_is}
use Rattle.yolkgorge.proofs.yolkgorge_finished.Goals as goal

pub returns-then-state-lt10 : goal.returns-then-state-lt10
returns-then-state-lt10 c = short_finished c.args.state.now c.args.count c.if-state-lt10.true

pub returns : goal.returns
returns c =
    c.from.ensures ∙ finished_is c.args.state.now c.args.count c.take.result _ c.if-state-lt10.false c.take.ensures c.finished.ensures
