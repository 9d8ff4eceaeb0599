use mathlib.Core.Path.{◌∙◌}
use Rattle.session.proofs.CodeLaws.{moves_by, before_first, before_later}
use Rattle.session.proofs.Plan.moves.Goals as goal

pub returns-then-k-eq0 : goal.returns-then-k-eq0
returns-then-k-eq0 c = moves_by _ _ c.requires _ c.entry-entry.ensures (before_first _ _ c.if-k-eq0.true)

pub returns : goal.returns
returns c = moves_by _ _ c.requires _ c.entry-entry.ensures (c.entry.ensures ∙ before_later _ _ c.if-k-eq0.false)
