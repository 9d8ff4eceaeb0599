-- What checking a plan along segments promises.
use Rattle.std.specs.Prelude.{◌≡◌, Bool, true, false, ◌&&◌, List, ℕ, Result, Ok, Err, leb, length}
use Rattle.area.specs.Entries.{entries}
use Rattle.exchange.specs.Deal.{Plan}
use Rattle.exchange.specs.PlanIn.{plan_in}
use Rattle.line.specs.Segments.{deal_along, fits}
use Rattle.exchange.specs.declared.Unfit.{Unfit}
use Rattle.exchange.specs.declared.Sides.{Sides}

-- whether the segments fit, and each area holds as many entries as the count says
unfoldable pub holds_count : List ℕ → List ℕ → List ℕ → ℕ → List ℕ → List ℕ → Bool
holds_count us cs vs count places sums = fits us cs vs && leb count (length (entries 2 places)) && leb count (length (entries 4 sums))

-- what each answer says of the first entries of the areas: they are a plan along the segments, they are none, or they cannot be read
abbrev pub Checks : Sides → List ℕ → List ℕ → List ℕ → ℕ → List ℕ → List ℕ → Result Bool Unfit → Type 0
Checks s us cs vs count places sums (Ok true) =
    (holds_count us cs vs count places sums ≡ true) × Plan (deal_along s us cs vs) (plan_in count places sums)
Checks s us cs vs count places sums (Ok false) =
    (holds_count us cs vs count places sums ≡ true) × (Plan (deal_along s us cs vs) (plan_in count places sums) → ⊥)
Checks s us cs vs count places sums (Err e) = holds_count us cs vs count places sums ≡ false
