-- What the functions of this crate ask and give.
use Rattle.std.specs.Prelude.{◌≡◌, Bool, true, false, Result, Ok, Err, List, [], map, ◌++◌, ℕ, ◌+◌, ◌*◌, ◌≤◌, ◌<◌, ◌^◌, pos, length, get_or, take, drop, ◌≤ℤ◌}
use Rattle.std.specs.Int.Signed.{le_z}
use Rattle.area.specs.Entries.{entries, remainder}
use Rattle.exchange.specs.Bounds.{unclipped_upper_of, unclipped_lower_of}
use Rattle.exchange.specs.Deal.{Deal, State, Plan, start, ends}
use Rattle.exchange.specs.Forms.{along}
use Rattle.exchange.specs.Rule.{reach, ruled}
use Rattle.exchange.specs.Possible.{Possible}
use Rattle.exchange.specs.Arrival.{Arrives}
use Rattle.exchange.specs.Work.{WorkStep, work_of}
use Rattle.exchange.specs.Objectives.{opening, Opens}
use Rattle.exchange.specs.declared.Sides.{Sides}
use Rattle.exchange.specs.declared.Unfit.{Unfit}
use Rattle.line.specs.Segments.{spread, fits, all_have, deal_along}
use Rattle.line.specs.declared.Cursor.{Cursor}
use Rattle.line.specs.declared.First.{First}
use Rattle.line.specs.declared.Totals.{Totals}

-- the sum of the first k numbers
abbrev pub sum_to : List ℕ → ℕ → ℕ
sum_to xs k = along (λ a. a) xs k

-- segments that fit, as facts
pub record Fit (us cs vs : List ℕ) : Type 0 where
  pub costs : length cs ≡ length us
  pub values : length vs ≡ length us
  pub have : all_have us ≡ true
  pub units_fit : length (spread us cs) < 2 ^ 16
  pub cost_fits : sum_to (spread us cs) (length (spread us cs)) < 2 ^ 32
  pub value_fits : sum_to (spread us vs) (length (spread us cs)) < 2 ^ 32

-- the totals of segments that fit
pub record Known (us cs vs : List ℕ) (t : Totals) : Type 0 where
  pub fit : Fit us cs vs
  pub units_are : t.units ≡ length (spread us cs)
  pub cost_is : t.cost ≡ sum_to (spread us cs) (length (spread us cs))
  pub value_is : t.value ≡ sum_to (spread us vs) (length (spread us cs))

-- what summing says: the totals, or that the segments do not fit
abbrev pub Sums : List ℕ → List ℕ → List ℕ → Result Totals Unfit → Type 0
Sums us cs vs (Ok t) = Known us cs vs t
Sums us cs vs (Err e) = fits us cs vs ≡ false

-- the cursor stands at its place: at a unit of its segment where units are left, with the cost and value so far
pub record At (us cs vs : List ℕ) (c : Cursor) : Type 0 where
  pub place_is : c.place ≡ sum_to us c.segment + c.used
  pub within : c.place ≤ length (spread us cs)
  pub left : c.place < length (spread us cs) → c.used < get_or us c.segment 0
  pub cost_is : c.cost ≡ sum_to (spread us cs) c.place
  pub value_is : c.value ≡ sum_to (spread us vs) c.place

-- units are left where the cursor stands
pub record Open (us cs vs : List ℕ) (c : Cursor) : Type 0 where
  pub fit : Fit us cs vs
  pub at : At us cs vs c
  pub more : c.place < length (spread us cs)

-- the cursor stands at the place
pub record There (us cs vs : List ℕ) (c : Cursor) (place : ℕ) : Type 0 where
  pub at : At us cs vs c
  pub place_is : c.place ≡ place

-- the cursor where nothing is delivered
abbrev pub origin : Cursor
origin = record { place = 0; segment = 0; used = 0; cost = 0; value = 0 }

-- whether the unclipped lower bound of a place with this value is at most the unclipped upper bound of one with this cost, by the totals
abbrev pub meet : Sides → Totals → ℕ → ℕ → Bool
meet s t cost value = le_z (unclipped_lower_of s.price t.value value s.buyer) (unclipped_upper_of s.price t.cost cost s.supplier)

-- r of n units of one value make no more than a limit, and one unit more would
pub record UnitsIn (limit value n r : ℕ) : Type 0 where
  pub within : r ≤ n
  pub enough : r * value ≤ limit
  pub most : r < n → limit < (r + 1) * value

-- the cursor's place has a lower bound of at most what is paid
pub record Reached (s : Sides) (us cs vs : List ℕ) (paid : ℕ) (c : Cursor) : Type 0 where
  pub at : At us cs vs c
  pub low : (deal_along s us cs vs).lower c.place ≤ℤ pos paid

-- the cursor stands where the rule delivers to
pub record Delivered (s : Sides) (us cs vs : List ℕ) (paid : ℕ) (c : Cursor) : Type 0 where
  pub at : At us cs vs c
  pub reached : c.place ≡ reach (deal_along s us cs vs) paid (length (spread us cs))

-- the test of a deal: it is possible, or it has no plan
pub record Decides (d : Deal) (b : Bool) : Type 0 where
  pub yes : b ≡ true → Possible d
  pub no : b ≡ false → (xs : List State) → Plan d xs → ⊥

-- an area of w-byte entries that holds the numbers xs at its front and is as it was after them
pub record Holds (w : ℕ) (xs before after : List ℕ) : Type 0 where
  pub entries_are : entries w after ≡ xs ++ drop (length xs) (entries w before)
  pub remainder_kept : remainder w after ≡ remainder w before
  pub length_kept : length after ≡ length before

-- the state after n steps by the rule from f
abbrev pub state_at : Deal → State → ℕ → State
state_at d f n = ends f (ruled d f n)

-- one step from the start leads to f, and with k steps before them the rule's steps from f are no more than 2U + 1
pub record Begins (d : Deal) (f : State) (k : ℕ) : Type 0 where
  pub step : WorkStep (work_of d) start f
  pub short : (n : ℕ) → Arrives d f n → k + n ≤ 2 * d.last + 1

-- the cursor and the payment stand there
pub record Sets (s : Sides) (us cs vs : List ℕ) (c : Cursor) (paid k : ℕ) : Type 0 where
  pub at : At us cs vs c
  pub begins : Begins (deal_along s us cs vs) (record { place = c.place; paid = paid }) k

-- the state of a first step
abbrev pub state_of : First → State
state_of r = record { place = r.cursor.place; paid = r.paid }

-- an area of w-byte entries has an entry for each step that there may be
abbrev pub Room : ℕ → List ℕ → List ℕ → List ℕ → Type 0
Room w us cs area = 2 * length (spread us cs) + 1 ≤ length (entries w area)

-- both areas hold these states from entry k on, and are as they were before and after them
pub record Written (k : ℕ) (xs : List State) (places sums places' sums' : List ℕ) : Type 0 where
  pub places_hold : Holds 2 (take k (entries 2 places) ++ map (λ s. s.place) xs) places places'
  pub sums_hold : Holds 4 (take k (entries 4 sums) ++ map (λ s. s.paid) xs) sums sums'

-- n steps by the rule lead from f to the end, and are written from entry k on where both areas have room for them
pub record Fills (s : Sides) (us cs vs : List ℕ) (f : State) (k n : ℕ) (places sums places' sums' : List ℕ) : Type 0 where
  pub arrives : Arrives (deal_along s us cs vs) f n
  pub written : Room 2 us cs places → Room 4 us cs sums → Written k (ruled (deal_along s us cs vs) f n) places sums places' sums'

-- n steps: the first one, to f, unless it is empty
pub record Begun (f : State) (n : ℕ) (places sums places' sums' : List ℕ) : Type 0 where
  pub count_is : n ≡ length (opening f [])
  pub written : Written 0 (opening f []) places sums places' sums'

-- n is how many steps the plan has that opens with a first step to f
pub record Counts (d : Deal) (f : State) (n : ℕ) : Type 0 where
  pub steps : List State
  pub opens : Opens d f steps
  pub count_is : n ≡ length steps
