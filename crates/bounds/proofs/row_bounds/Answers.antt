use mathlib.Core.Path.{◌≡◌}
use mir.Syntax.{w64}
use mir.Val.{to_z, of_z}
use mir.Facts.{to_z-of_z}
use borrow.Author.Rules.{rules}
use Rattle.bounds.proofs.row_bounds.Goals as goal

pub returns : goal.returns
returns c =
    let lo = c.lower-lower.result in
    let hi = c.upper-upper.result in
    let k : to_z w64 (of_z w64 lo) ≡ lo = to_z-of_z {w = w64} (search rules) in
    let m : to_z w64 (of_z w64 hi) ≡ hi = to_z-of_z {w = w64} (search rules) in
    rw (k, m, c.lower-lower.ensures, c.upper-upper.ensures, c.last_cell.ensures, c.cell.ensures, c.last_cell-2.ensures, c.cell-2.ensures)
