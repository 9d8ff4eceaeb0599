-- `line::bounds_line` meets its contract. Assumes nothing.
use mathlib.Core.Path.{◌≡◌, ap, ◌∙◌}
use mir.Syntax.{w64}
use mir.Val.{to_z, of_z}
use mir.Facts.{to_z-of_z}
use borrow.Author.Rules.{rules}
use Rattle.exchange.specs.Test.{bounds_at}
use Rattle.line.specs.Course.{deal_of}
use Rattle.line.proofs.PlaceLaws.{cursor_bounds_lem}
use Rattle.line.proofs.bounds_line.Goals as goal

pub returns : goal.returns
returns g c =
    let x = g.L.Line.course c.args.line.now in
    let at = c.at-c.ensures in
    let lo = c.lower-lower.result in
    let hi = c.upper-upper.result in
    let k : to_z w64 (of_z w64 lo) ≡ lo = to_z-of_z {w = w64} (search rules) in
    let m : to_z w64 (of_z w64 hi) ≡ hi = to_z-of_z {w = w64} (search rules) in
    rw (k, m, c.lower-lower.ensures, c.upper-upper.ensures, c.sides-sides.ensures, c.totals-all.ensures)
    (cursor_bounds_lem x.sides x.units x.costs x.values x.all (g.met.L.Line.known c.args.line.now) _ at.at ∙ ap (bounds_at (deal_of x)) at.place_is)
