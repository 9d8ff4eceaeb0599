use mathlib.Core.Path.{refl, sym, ◌∙◌}
use borrow.Author.Tests.{eq-eqb, ne_eqb}
use Rattle.session.specs.Session.{fits}
use Rattle.session.proofs.CodeLaws.{side_entry}
use Rattle.session.proofs.Session.fits.Goals as goal

pub returns-then-entry-number : goal.returns-then-entry-number
unfolding fits
returns-then-entry-number c =
    let x = c.args in
    let e = sym c.if-entry-number.true ∙ c.entry.ensures ∙ side_entry _ _ c.requires x.side in
    rw (eq-eqb _ _ e, c.awaits.ensures) refl

pub returns-else-entry-number : goal.returns-else-entry-number
unfolding fits
returns-else-entry-number c =
    let x = c.args in
    let e = c.entry.ensures ∙ side_entry _ _ c.requires x.side in
    rw (ne_eqb _ _ c.if-entry-number.false, ne_eqb x.number _ (λ q. c.if-entry-number.false (e ∙ sym q))) refl
