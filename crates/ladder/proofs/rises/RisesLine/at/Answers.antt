-- `ladder::rises::RisesLine::at` meets its contract. Assumes nothing.
use mathlib.Core.Path.{refl, sym, ◌∙◌}
use Rattle.line.proofs.PlaceLaws.{first_ahead}
use Rattle.ladder.specs.Rises.{costs_in, values_in}
use Rattle.ladder.specs.Code.{ones_in}
use Rattle.ladder.proofs.RiseLaws.{at_top}
use Rattle.ladder.proofs.rises.RisesLine.at.Goals as goal

pub returns-then-place-self : goal.returns-then-place-self
returns-then-place-self c =
    let x = c.args.self.now in
    let a = at_top _ _ x.lies x.known c.top.result c.top.ensures in
    rw c.cursor.ensures (record { at = a; place_is = c.top.ensures.0 ∙ sym c.if-place-self.true })

pub advance-requires : goal.advance-requires
advance-requires c =
    let x = c.args.self.now in
    let l = x.ladder in
    first_ahead (ones_in l) (costs_in l x.bytes.now) (values_in l x.bytes.now) c.args.place l.all x.known c.requires _ refl
