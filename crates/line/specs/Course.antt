-- A line of segments as one value, and what the functions over a line ask and give.
use Rattle.std.specs.Prelude.{List, ℕ, ◌+◌, ◌*◌, ◌≤◌, length}
use Rattle.area.specs.Entries.{entries}
use Rattle.exchange.specs.Deal.{Deal, State}
use Rattle.exchange.specs.declared.Objective.{Objective}
use Rattle.exchange.specs.declared.Sides.{Sides}
use Rattle.line.specs.Segments.{deal_along}
use Rattle.line.specs.Code as code
use Rattle.line.specs.CheckCode as check-code
use Rattle.line.specs.OpeningCode as opening-code
use Rattle.line.specs.declared.Cursor.{Cursor}
use Rattle.line.specs.declared.First.{First}
use Rattle.line.specs.declared.Totals.{Totals}

-- P and the defection costs, the totals, and the units, cost and value of each segment
pub record Course : Type 0 where
  pub sides : Sides
  pub all : Totals
  pub units : List ℕ
  pub costs : List ℕ
  pub values : List ℕ

-- the deal along it
abbrev pub deal_of : Course → Deal
deal_of x = deal_along x.sides x.units x.costs x.values

-- its segments fit, and the totals are theirs
abbrev pub Known : Course → Type 0
Known x = code.Known x.units x.costs x.values x.all

-- the cursor's place has a lower bound of at most what is paid
abbrev pub Reached : Course → ℕ → Cursor → Type 0
Reached x paid c = code.Reached x.sides x.units x.costs x.values paid c

-- the cursor stands where the rule delivers to
abbrev pub Delivered : Course → ℕ → Cursor → Type 0
Delivered x paid c = code.Delivered x.sides x.units x.costs x.values paid c

-- the place lies ahead of the cursor, or is the cursor's own
abbrev pub Ahead : Course → Cursor → ℕ → Type 0
Ahead x c place = check-code.Ahead x.units x.costs x.values c place

-- the cursor stands at the place
abbrev pub There : Course → Cursor → ℕ → Type 0
There x c place = code.There x.units x.costs x.values c place

-- the first step and the payment stand where a plan may begin, with k steps before the rule's
abbrev pub Sets : Course → First → ℕ → Type 0
Sets x r k = code.Sets x.sides x.units x.costs x.values r.cursor r.paid k

-- the first step leads to the state f, where a plan may begin
abbrev pub Leads : Course → State → First → Type 0
Leads x f r = opening-code.Leads x.sides x.units x.costs x.values f r

-- the plan that opens with the first step is the one for the aim
abbrev pub Chosen : Objective → Course → First → Type 0
Chosen aim x r = opening-code.Chosen aim x.sides x.units x.costs x.values r

-- n steps by the rule lead from f to the end, and are written from entry k on where both areas have room for them
abbrev pub Fills : Course → State → ℕ → ℕ → List ℕ → List ℕ → List ℕ → List ℕ → Type 0
Fills x f k n places sums places' sums' = code.Fills x.sides x.units x.costs x.values f k n places sums places' sums'

-- both areas have an entry for each step that there may be
pub record Room (x : Course) (places sums : List ℕ) : Type 0 where
  pub places_room : 2 * x.all.units + 1 ≤ length (entries 2 places)
  pub sums_room : 2 * x.all.units + 1 ≤ length (entries 4 sums)
