-- What planning along segments promises.
use Rattle.std.specs.Prelude.{◌≡◌, Bool, true, false, Option, Some, None, Result, Ok, Err, ◌&&◌, List, map, ℕ, ◌+◌, ◌*◌, leb, length}
use Rattle.area.specs.Entries.{entries}
use Rattle.area.specs.Filled.{Filled}
use Rattle.exchange.specs.Deal.{Deal, State, Plan}
use Rattle.exchange.specs.Possible.{Possible}
use Rattle.exchange.specs.Objectives.{PlanFor}
use Rattle.exchange.specs.declared.Objective.{Objective}
use Rattle.exchange.specs.declared.Unfit.{Unfit}
use Rattle.exchange.specs.declared.Sides.{Sides}
use Rattle.line.specs.Segments.{deal_along, spread, fits}

-- whether the segments fit, and each area holds twice their units and one more entries
unfoldable pub suits : List ℕ → List ℕ → List ℕ → List ℕ → List ℕ → Bool
suits us cs vs places sums =
    fits us cs vs && leb (2 * length (spread us cs) + 1) (length (entries 2 places)) && leb (2 * length (spread us cs) + 1) (length (entries 4 sums))

-- n steps: they are the plan for the aim
pub record Success (aim : Objective) (d : Deal) (n : ℕ) (places sums places' sums' : List ℕ) : Type 0 where
  pub possible : Possible d
  pub steps : List State
  pub plan_for : PlanFor aim d steps
  pub count_is : n ≡ length steps
  pub places_are : Filled 2 (map (λ s. s.place) steps) places places'
  pub sums_are : Filled 4 (map (λ s. s.paid) steps) sums sums'

-- what each answer says of the deal, and of both areas
abbrev pub Answers : Objective → Deal → Bool → Result (Option ℕ) Unfit → List ℕ → List ℕ → List ℕ → List ℕ → Type 0
Answers aim d suit (Ok (Some n)) places sums places' sums' = (suit ≡ true) × Success aim d n places sums places' sums'
Answers aim d suit (Ok None) places sums places' sums' =
    (suit ≡ true) × (((xs : List State) → Plan d xs → ⊥) × ((places' ≡ places) × (sums' ≡ sums)))
Answers aim d suit (Err e) places sums places' sums' = (suit ≡ false) × ((places' ≡ places) × (sums' ≡ sums))

-- the promise of planning
abbrev pub Plans : Objective → Sides → List ℕ → List ℕ → List ℕ → Result (Option ℕ) Unfit → List ℕ → List ℕ → List ℕ → List ℕ → Type 0
Plans aim s us cs vs r places sums places' sums' = Answers aim (deal_along s us cs vs) (suits us cs vs places sums) r places sums places' sums'
