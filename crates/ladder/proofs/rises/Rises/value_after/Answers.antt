-- `ladder::rises::Rises::value_after` meets its contract: the rise stands in its column. Assumes nothing.
use mathlib.Core.Path.{sym, ap, ◌∙◌}
use Prim.Native.Nat.{◌+◌}
use native.Mathlib.Omega.{arith}
use Rattle.area.specs.Entries.{num}
use Rattle.ladder.proofs.RiseLaws.{column_at}
use Rattle.ladder.proofs.rises.Rises.value_after.Goals as goal

pub returns : goal.returns
returns c =
    let x = c.args.self.now in
    c.rise.ensures ∙ ap (num 4 x.bytes.now) (omega arith) ∙ sym (column_at 4 x.bytes.now (x.ladder.first + 4) 8 x.ladder.all.units c.args.k c.requires)
