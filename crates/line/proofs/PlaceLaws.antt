-- The bounds of a place along segments. Assumes nothing.
use mathlib.Core.Path.{◌≡◌, sym, ◌∙◌, subst}
use mathlib.Core.Logic.{◌↔◌}
use mathlib.Core.Bool.{true, false, and-eq-true_iff}
use mathlib.Core.List.{List}
use Prim.Native.Nat.{ℕ, ◌≤◌, ◌<◌}
use native.Mathlib.Omega.{arith}
use borrow.Author.Tests.{leb-true, le-leb}
use lib.Dec.{T}
use lib.ListN.{length}
use Rattle.exchange.specs.Test.{bounds_at}
use Rattle.line.specs.Segments.{spread, fits, deal_along}
use Rattle.line.specs.BoundsPromise.{has_place}
use Rattle.line.specs.Code.{Fit, Known, At, Open, origin}
use Rattle.line.specs.CheckCode.{Ahead, cursor_bounds}
use Rattle.line.specs.declared.Cursor.{Cursor}
use Rattle.exchange.specs.declared.Sides.{Sides}
use Rattle.line.specs.declared.Totals.{Totals}
use Rattle.line.proofs.SegmentLaws.{at_origin, fits↔, not_so}

-- ---- the bounds of a place

pub cursor_bounds_lem : (s : Sides) (us cs vs : List ℕ) (t : Totals) → Known us cs vs t → (c : Cursor) → At us cs vs c
    → cursor_bounds s t c ≡ bounds_at (deal_along s us cs vs) c.place
cursor_bounds_lem s us cs vs t k c a = rw (k.value_is, k.cost_is, a.value_is, a.cost_is)

pub ahead_open : (us cs vs : List ℕ) (c : Cursor) (place : ℕ) → Ahead us cs vs c place → c.place < place → Open us cs vs c
ahead_open us cs vs c place a h = record { fit = a.fit; at = a.at; more = omega (arith, a.within) }

module _ (us cs vs : List ℕ) (place : ℕ) where
  place↔ : (has_place us cs vs place ≡ true) ↔ (Fit us cs vs × (place ≤ length (spread us cs)))
  unfolding has_place
  place↔ = (
    λ e.
        let f = (and-eq-true_iff (fits us cs vs) _).0 e in
        ((fits↔ us cs vs).0 f.0, leb-true _ _ f.1),
    λ h. rw ((fits↔ us cs vs).1 h.0) (le-leb _ _ h.1),
  )

  pub unfit_place : fits us cs vs ≡ false → has_place us cs vs place ≡ false
  unfit_place e = not_so _ (λ h. subst T (sym ((fits↔ us cs vs).1 (place↔.0 h).0) ∙ e) tt)

  module _ (t : Totals) (k : Known us cs vs t) where
    pub no_place : t.units < place → has_place us cs vs place ≡ false
    no_place h = not_so _ (λ q. let r = (place↔.0 q).1 in absurd (omega (arith, k.units_are)))

    pub first_ahead : place ≤ t.units → (c : Cursor) → c ≡ origin → Ahead us cs vs c place
    first_ahead h c o =
        rw o (record { fit = k.fit; at = at_origin us cs vs k.fit; from = omega arith; within = omega (arith, k.units_are) })

    pub place_here : place ≤ t.units → has_place us cs vs place ≡ true
    place_here h = place↔.1 (k.fit, omega (arith, k.units_are))
