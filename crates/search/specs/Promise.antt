-- What planning a table promises.
use Rattle.std.specs.Prelude.{◌≡◌, Result, Ok, Err, Option, Some, None, Bool, true, false, ◌&&◌, List, map, ℕ, ◌+◌, ◌*◌, leb, ltb, eqb, length, replicate}
use Rattle.area.specs.Entries.{entries}
use Rattle.area.specs.Filled.{Filled}
use Rattle.grid.specs.Rows.{rows_of, rising}
use Rattle.exchange.specs.Deal.{Deal, State, Plan}
use Rattle.exchange.specs.Forms.{table}
use Rattle.exchange.specs.Fewest.{Earliest}
use Rattle.exchange.specs.Search.{most_steps}
use Rattle.exchange.specs.declared.Unfit.{Unfit}
use Rattle.exchange.specs.declared.Sides.{Sides}

-- no cost and no value falls as units are added
pub record Rise (us costs values : List ℕ) : Type 0 where
  pub costs_rise : rising us costs (length costs) ≡ true
  pub values_rise : rising us values (length values) ≡ true

-- 2 to 128 rows, a cost and a value for each, 2U + 1 places and sums, and rows × (2U + 2) work bytes
unfoldable pub suits : List ℕ → List ℕ → List ℕ → List ℕ → List ℕ → List ℕ → Bool
suits us costs values places sums work =
    ltb 1 (rows_of us) && leb (rows_of us) 128 && eqb (length costs) (rows_of us) && eqb (length values) (rows_of us)
    && leb (most_steps us) (length (entries 2 places)) && leb (most_steps us) (length (entries 4 sums))
    && leb (rows_of us * (most_steps us + 1)) (length work)

-- n steps: of the plans with fewest steps the one with the earliest rows
pub record Success (d : Deal) (n : ℕ) (places sums places' sums' : List ℕ) : Type 0 where
  pub plan : List State
  pub earliest : Earliest d plan
  pub steps : n ≡ length plan
  pub places_are : Filled 2 (map (λ s. s.place) plan) places places'
  pub sums_are : Filled 4 (map (λ s. s.paid) plan) sums sums'

-- what each answer says of the deal, and of the areas; the work area is zero after the search
abbrev pub Answers : Deal → Bool → Result (Option ℕ) Unfit → List ℕ → List ℕ → List ℕ → List ℕ → List ℕ → List ℕ → Type 0
Answers d suit (Ok (Some n)) places sums work places' sums' work' =
    (suit ≡ true) × (Success d n places sums places' sums' × (work' ≡ replicate (length work) 0))
Answers d suit (Ok None) places sums work places' sums' work' =
    (suit ≡ true) × (((xs : List State) → Plan d xs → ⊥) × ((places' ≡ places) × ((sums' ≡ sums) × (work' ≡ replicate (length work) 0))))
Answers d suit (Err e) places sums work places' sums' work' =
    (suit ≡ false) × ((places' ≡ places) × ((sums' ≡ sums) × (work' ≡ work)))

-- the promise of planning a table, which asks for cells that rise
abbrev pub Plans : Sides → List ℕ → List ℕ → List ℕ → Result (Option ℕ) Unfit → List ℕ → List ℕ → List ℕ → List ℕ → List ℕ → List ℕ → Type 0
Plans p us costs values r places sums work places' sums' work' =
    Answers (table p us costs values) (suits us costs values places sums work) r places sums work places' sums' work'
