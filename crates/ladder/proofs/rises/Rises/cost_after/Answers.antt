-- `ladder::rises::Rises::cost_after` meets its contract: the rise stands in its column. Assumes nothing.
use mathlib.Core.Path.{sym, ◌∙◌}
use Rattle.ladder.proofs.RiseLaws.{column_at}
use Rattle.ladder.proofs.rises.Rises.cost_after.Goals as goal

pub returns : goal.returns
returns c =
    let x = c.args.self.now in
    c.rise.ensures ∙ sym (column_at 4 x.bytes.now x.ladder.first 8 x.ladder.all.units c.args.k c.requires)
