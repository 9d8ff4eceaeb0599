-- `line::affords` meets its contract. Assumes nothing.
use mathlib.Core.Path.{◌≡◌}
use mathlib.Core.Logic.Iff
use mir.Syntax.{w64}
use mir.Val.{to_z, of_z}
use mir.Facts.{to_z-of_z}
use borrow.Author.Rules.{rules}
use Rattle.exchange.proofs.Int.{le_z_same}
use Rattle.exchange.proofs.BoundLaws.{high_same}
use Rattle.line.proofs.affords.Goals as goal

pub returns : goal.returns
returns c =
    let q = c.from.result in
    let hi = c.unclipped_upper.result in
    let j : to_z w64 (of_z w64 q) ≡ q = to_z-of_z {w = w64} (search rules) in
    let k : to_z w64 (of_z w64 hi) ≡ hi = to_z-of_z {w = w64} (search rules) in
    rw (j, k, c.from.ensures, c.unclipped_upper.ensures)
    (le_z_same _ _ _ _ (Iff.symm (high_same _ _ _ _ c.args.paid c.requires)))
