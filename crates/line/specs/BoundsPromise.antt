-- What the bounds of a place along segments promise.
use Rattle.std.specs.Prelude.{◌≡◌, Bool, true, false, ◌&&◌, List, ℕ, Result, Ok, Err, leb, length}
use Rattle.exchange.specs.Test.{bounds_at}
use Rattle.line.specs.Segments.{deal_along, spread, fits}
use Rattle.exchange.specs.declared.Bounds.{Bounds}
use Rattle.exchange.specs.declared.Unfit.{Unfit}
use Rattle.exchange.specs.declared.Sides.{Sides}

-- whether the segments fit, and the place is not above all their units
unfoldable pub has_place : List ℕ → List ℕ → List ℕ → ℕ → Bool
has_place us cs vs place = fits us cs vs && leb place (length (spread us cs))

-- what each answer says: both bounds of the place, or that there is no such place
abbrev pub BoundsOf : Sides → List ℕ → List ℕ → List ℕ → ℕ → Result Bounds Unfit → Type 0
BoundsOf s us cs vs place (Ok b) = (has_place us cs vs place ≡ true) × (b ≡ bounds_at (deal_along s us cs vs) place)
BoundsOf s us cs vs place (Err e) = has_place us cs vs place ≡ false
