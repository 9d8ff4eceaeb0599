-- The search as the code makes it: step by step, in each step the rows whose need has changed offer their floor.
use Rattle.std.specs.Prelude.{◌≡◌, Option, Some, None, Bool, true, false, cond, ◌&&◌, ◌⊎◌, List, map, ℕ, zero, suc, min, ◌+◌, ◌-◌, ◌≤◌, ◌<◌, T, leb, ltb, eqb, get_or, set, length, take, replicate}
use Rattle.area.specs.Entries.{entries, remainder}
use Rattle.grid.specs.Rows.{rows_of}
use Rattle.grid.specs.Units.{Small, RowUnits}
use Rattle.contract.specs.Contract.{limit}
use Rattle.exchange.specs.Deal.{start}
use Rattle.exchange.specs.Work.{Work, work_of, Lawful}
use Rattle.exchange.specs.Bounds.{upper_of, lower_of}
use Rattle.exchange.specs.Rule.{coins}
use Rattle.exchange.specs.Forms.{table, holds_row}
use Rattle.exchange.specs.Test.{start_test}
use Rattle.exchange.specs.Search.{need, count, first_of, forwards}
use Rattle.held.specs.Words.{holds_word}
use Rattle.search.specs.declared.Terms.{Terms}
use Rattle.search.specs.declared.layers.Window.{Window}
use Rattle.search.specs.declared.notes.Notes.{Notes}
use Rattle.search.specs.Promise.{Rise}

-- the sum of a row from which the end is not reached, above every price
abbrev pub mark : ℕ
mark = 4294967295

-- the working form of a table
abbrev pub working : Terms → List ℕ → List ℕ → List ℕ → Work
working t us costs values = work_of (table t.sides us costs values)

-- the number of rows is that of these units, two or more, and at most 128
pub record Table (t : Terms) (us : List ℕ) : Type 0 where
  pub rows_are : t.rows ≡ rows_of us
  pub some : 1 < t.rows
  pub few : t.rows ≤ 128

-- the most that is paid at row a, the smaller of upper and the price, by the cost of the last row
abbrev pub cap_at : ℕ → ℕ → ℕ → List ℕ → ℕ → ℕ
cap_at price top supplier costs a = min (coins (upper_of price top (get_or costs a 0) supplier)) price

-- the least that is paid at row b, the greater of lower and 0, by the value of the last row
abbrev pub floor_at : ℕ → ℕ → ℕ → List ℕ → ℕ → ℕ
floor_at price top buyer values b = coins (lower_of price top (get_or values b 0) buyer)

-- whether the start is safe, by the cells of the first and the last row
abbrev pub starts_by : Terms → List ℕ → List ℕ → Bool
starts_by t costs values =
    start_test t.sides.price (get_or costs (t.rows - 1) 0) (get_or costs 0 0) (get_or values (t.rows - 1) 0) (get_or values 0 0)

-- the first n entries of an array of 128 are those of f, and the others are 0
pub record Lists (f : ℕ → ℕ) (array : List ℕ) (n : ℕ) : Type 0 where
  pub long : length array ≡ 128
  pub entry : (a : ℕ) → a < n → get_or array a 0 ≡ f a
  pub rest : (a : ℕ) → n ≤ a → get_or array a 0 ≡ 0

-- each of the first n entries of an array of 128 is what is answered of its cell, and the others are 0
pub record Each (answer : ℕ → ℕ → Type 0) (cells array : List ℕ) (n : ℕ) : Type 0 where
  pub long : length array ≡ 128
  pub entry : (a : ℕ) → a < n → answer (get_or cells a 0) (get_or array a 0)
  pub rest : (a : ℕ) → n ≤ a → get_or array a 0 ≡ 0

-- the first n entries of an array are the caps of the rows
abbrev pub Caps : Terms → List ℕ → List ℕ → ℕ → Type 0
Caps t costs = Lists (cap_at t.sides.price (get_or costs (t.rows - 1) 0) t.sides.supplier costs)

-- the first n entries of an array are the floors of the rows
abbrev pub Floors : Terms → List ℕ → List ℕ → ℕ → Type 0
Floors t values = Lists (floor_at t.sides.price (get_or values (t.rows - 1) 0) t.sides.buyer values)

-- the working form by arrays with the caps and the floors of the rows
abbrev pub rows_work : Terms → List ℕ → List ℕ → List ℕ → Work
rows_work t us caps floors =
    record {
      price = t.sides.price;
      last = t.rows - 1;
      cap = λ a. get_or caps a 0;
      floor = λ a. get_or floors a 0;
      holds = holds_row us;
    }

-- what the search asks: a table, the units of its rows, a price below the mark, and caps and floors that rise
pub record Searchable (t : Terms) (us held caps floors : List ℕ) : Type 0 where
  pub good : Table t us
  pub small : Small us
  pub units_are : RowUnits us held (rows_of us)
  pub high : t.sides.price < mark
  pub lawful : Lawful (rows_work t us caps floors)

-- ---- offers

-- the best offer of row a once row b offers its floor to the rows that it holds and that can pay what it needs
unfoldable pub offer_to : List ℕ → List ℕ → ℕ → ℕ → ℕ → ℕ → ℕ → ℕ
offer_to us caps b need floor a old = cond (holds_row us a b && leb need (get_or caps a 0)) (min floor old) old

-- the best offer of each row becomes that of f, in an array of 128 entries
pub record Offers (f : ℕ → ℕ → ℕ) (rows : ℕ) (next next' : List ℕ) : Type 0 where
  pub long : length next' ≡ 128
  pub offer_is : (a : ℕ) → a < rows → get_or next' a 0 ≡ f a (get_or next a 0)

-- the rows that can offer something new: the floors and first sums of all rows, those that are reached, and the window of them
pub record Front : Type 0 where
  pub floors : List ℕ
  pub firsts : List ℕ
  pub found : List ℕ
  pub window : Window

-- the same, by what was noted of the rows
abbrev pub front : List ℕ → Notes → Window → Front
front floors r v = record { floors = floors; firsts = r.firsts; found = r.found; window = v }

-- the i-th row that was reached
abbrev pub row_at : Front → ℕ → ℕ
row_at f i = get_or f.found i 0

-- its floor
abbrev pub floor_of : Front → ℕ → ℕ
floor_of f i = get_or f.floors (row_at f i) 0

-- what it needs: its floor, and its first sum if it was reached in the last step
abbrev pub need_at : Front → ℕ → ℕ
need_at f i = cond (ltb i f.window.fresh) (floor_of f i) (get_or f.firsts (row_at f i) 0)

-- it offers its floor to row a
pub record OffersTo (us caps : List ℕ) (f : Front) (a i : ℕ) : Type 0 where
  pub held : T (holds_row us a (row_at f i))
  pub pays : need_at f i ≤ get_or caps a 0

-- o is the floor that one of the rows of the window, before the n-th, offers to row a
pub record Taken (us caps : List ℕ) (f : Front) (n a o : ℕ) : Type 0 where
  pub index : ℕ
  pub begin : f.window.from ≤ index
  pub below : index < n
  pub offers : OffersTo us caps f a index
  pub floor_is : o ≡ floor_of f index

-- o is the least of the floors that they offer to row a; the mark if none does
pub record Best (us caps : List ℕ) (f : Front) (n a o : ℕ) : Type 0 where
  pub marked : o ≤ mark
  pub taken : o < mark → Taken us caps f n a o
  pub least : (i : ℕ) → f.window.from ≤ i → i < n → OffersTo us caps f a i → o ≤ floor_of f i

-- an array has the best offer of each row once the rows of the window before the n-th have offered
abbrev pub Offered : List ℕ → List ℕ → Front → ℕ → List ℕ → Type 0
Offered us caps f n next = (a : ℕ) → a < rows_of us → Best us caps f n a (get_or next a 0)

-- the rows of a window are rows of the table; each can pay what it needs, and its floor is below the mark
pub record Offerers (caps : List ℕ) (f : Front) (rows : ℕ) : Type 0 where
  pub few : f.window.end ≤ 128
  pub order : f.window.from ≤ f.window.end
  pub in_rows : (i : ℕ) → i < f.window.end → row_at f i < rows
  pub pays : (i : ℕ) → f.window.from ≤ i → i < f.window.end → need_at f i ≤ get_or caps (row_at f i) 0
  pub low : (i : ℕ) → f.window.from ≤ i → i < f.window.end → floor_of f i < mark

-- ---- the rows that have an offer

-- one of the first n entries of a list is a
pub record Among (list : List ℕ) (n a : ℕ) : Type 0 where
  pub index : ℕ
  pub below : index < n
  pub entry : get_or list index 0 ≡ a

-- how many of the first k entries of an array are below a number
unfoldable pub below : ℕ → List ℕ → ℕ → ℕ
below m xs zero = 0
below m xs (suc k) = cond (ltb (get_or xs k 0) m) (suc (below m xs k)) (below m xs k)

-- the list has the rows whose offer is below the mark, each once, and a place more than there are rows
pub record Listing (next list : List ℕ) (n rows : ℕ) : Type 0 where
  pub next_long : length next ≡ 128
  pub list_long : length list ≡ 129
  pub counted : n ≡ below mark next rows
  pub few : n ≤ 128
  pub lists : (a : ℕ) → a < rows → get_or next a 0 < mark → Among list n a
  pub in_rows : (i : ℕ) → i < n → get_or list i 0 < rows
  pub taken : (i : ℕ) → i < n → get_or next (get_or list i 0) 0 < mark

-- row a is written behind the list, and belongs to it if it had no offer before
pub record RowListed (list : List ℕ) (n a before : ℕ) (list' : List ℕ) (n' : ℕ) : Type 0 where
  pub list_is : list' ≡ set list n a
  pub count_is : n' ≡ cond (ltb before mark) n (n + 1)

-- ---- the rows that are reached

-- no step reaches the row
abbrev pub never : ℕ
never = 65535

-- arrays of 128 entries; `end` rows are reached
pub record Kept (r : Notes) (end : ℕ) : Type 0 where
  pub reached_long : length r.reached ≡ 128
  pub firsts_long : length r.firsts ≡ 128
  pub found_long : length r.found ≡ 128
  pub counted : end ≡ below never r.reached 128

-- row a is as it was
pub record Same (r r' : Notes) (a : ℕ) : Type 0 where
  pub step_same : get_or r'.reached a 0 ≡ get_or r.reached a 0
  pub first_same : get_or r'.firsts a 0 ≡ get_or r.firsts a 0

-- row a is reached in this step by its offer, and stands behind the first `end` rows
pub record New (next : List ℕ) (step end : ℕ) (r' : Notes) (m a : ℕ) : Type 0 where
  pub step_is : get_or r'.reached a 0 ≡ step
  pub first_is : get_or r'.firsts a 0 ≡ get_or next a 0
  pub index : ℕ
  pub begin : end ≤ index
  pub below : index < m
  pub entry : get_or r'.found index 0 ≡ a

-- more rows are reached: those that were keep their notes and their places in the order
pub record Grown (end : ℕ) (r r' : Notes) (m : ℕ) : Type 0 where
  pub kept : Kept r' m
  pub more : end ≤ m
  pub had : (a : ℕ) → get_or r.reached a 0 < never → Same r r' a
  pub found_kept : (i : ℕ) → i < end → get_or r'.found i 0 ≡ get_or r.found i 0

-- the first n rows of a list were gone through: those that were not reached are now
pub record Noting (next list : List ℕ) (step end : ℕ) (r r' : Notes) (n m : ℕ) : Type 0 where
  pub grown : Grown end r r' m
  pub waited : (a : ℕ) → never ≤ get_or r.reached a 0
      → (Same r r' a × (Among list n a → ⊥)) ⊎ (New next step end r' m a × Among list n a)
  pub found_new : (i : ℕ) → end ≤ i → i < m → Among list n (get_or r'.found i 0) × (get_or r'.reached (get_or r'.found i 0) 0 ≡ step)

-- each row that has an offer and was not reached is now; the others are as they were
pub record Noted (next : List ℕ) (step end : ℕ) (r r' : Notes) (m rows : ℕ) : Type 0 where
  pub grown : Grown end r r' m
  pub new : (a : ℕ) → a < rows → never ≤ get_or r.reached a 0 → get_or next a 0 < mark → New next step end r' m a
  pub waits : (a : ℕ) → a < rows → never ≤ get_or r.reached a 0 → mark ≤ get_or next a 0 → Same r r' a
  pub found_new : (i : ℕ) → end ≤ i → i < m → (get_or r'.found i 0 < rows) × (get_or r'.reached (get_or r'.found i 0) 0 ≡ step)

-- what a step asks: the rows of the window, the arrays of the rows, a list with a place more, and a step that has a number
pub record CanStep (us caps floors list : List ℕ) (r : Notes) (v : Window) : Type 0 where
  pub offerers : Offerers caps (front floors r v) (rows_of us)
  pub kept : Kept r v.end
  pub list_long : length list ≡ 129
  pub early : v.step + 1 < never

-- a step: the rows of the window offer their floors, the rows that take an offer are reached, and the window moves on
pub record Stepped (us caps : List ℕ) (f : Front) (reached : List ℕ) (r' : Notes) (v' : Window) : Type 0 where
  pub next : List ℕ
  pub offered : Offered us caps f f.window.end next
  pub noted : Noted next (f.window.step + 1) f.window.end (record { reached = reached; firsts = f.firsts; found = f.found }) r' v'.end (rows_of us)
  pub moved : v' ≡ record { step = f.window.step + 1; from = f.window.fresh; fresh = f.window.end; end = v'.end }

-- ---- all steps

-- a row of the window, before the n-th, ends the search one step on: row 0 can pay what it needs, and its floor is 0
pub record Arrival (caps : List ℕ) (f : Front) (n : ℕ) : Type 0 where
  pub index : ℕ
  pub begin : f.window.from ≤ index
  pub below : index < n
  pub affords : need_at f index ≤ get_or caps 0 0
  pub free : floor_of f index ≡ 0

-- the answer whether one of the window does
pub record Arrives (caps : List ℕ) (f : Front) (r : Bool) : Type 0 where
  pub found : r ≡ true → Arrival caps f f.window.end
  pub none : r ≡ false → Arrival caps f f.window.end → ⊥

-- the arrays before the first step: the last row is reached with no step, and its first sum is the price
pub record Begun (t : Terms) (r : Notes) : Type 0 where
  pub reached_are : r.reached ≡ set (replicate 128 never) (t.rows - 1) 0
  pub firsts_are : r.firsts ≡ set (replicate 128 mark) (t.rows - 1) t.sides.price
  pub found_are : r.found ≡ set (replicate 128 0) 0 (t.rows - 1)

-- what row b needs to end in j steps: nothing suffices before it is reached; then its first sum, and with more steps its floor
abbrev pub need_read : List ℕ → List ℕ → List ℕ → ℕ → ℕ → ℕ
need_read reached firsts floors j b =
    cond (ltb j (get_or reached b 0)) mark (cond (eqb j (get_or reached b 0)) (get_or firsts b 0) (get_or floors b 0))

-- the arrays say what each row needs to end in up to j steps
abbrev pub Says : Work → List ℕ → List ℕ → List ℕ → ℕ → Type 0
Says w reached firsts floors j = (i a : ℕ) → i ≤ j → a ≤ w.last → need_read reached firsts floors i a ≡ need w mark i a

-- a count of steps: the arrays say what each row needs with fewer, and the start then needs nothing
pub record Reached (w : Work) (reached firsts floors : List ℕ) (n : ℕ) : Type 0 where
  pub says : Says w reached firsts floors (n - 1)
  pub enough : need w mark n 0 ≤ 0

-- the fewest steps of a plan; none where no number up to the most is enough
abbrev pub steps_found : Work → ℕ → Option ℕ
steps_found w most = cond (leb (count w mark most) most) (Some (count w mark most)) None

-- the answer of the count: the number of steps, and what the arrays say of it
pub record Counted (w : Work) (most : ℕ) (reached firsts floors : List ℕ) (r : Option ℕ) : Type 0 where
  pub count_is : r ≡ steps_found w most
  pub reached_long : length reached ≡ 128
  pub firsts_long : length firsts ≡ 128
  pub reaches : (n : ℕ) → r ≡ Some n → Reached w reached firsts floors n

-- ---- the plan read forwards

-- whether row b can be delivered at row a with this sum paid, by the words of the rows, what each row needs, the cap of row a and the floors
abbrev pub delivers : List ℕ → List ℕ → (ℕ → ℕ) → ℕ → ℕ → ℕ → ℕ → Bool
delivers held floors needs cap a paid b = holds_word 4 (get_or held a 0) (get_or held b 0) && leb (needs b) cap && leb (get_or floors b 0) paid

-- the first of the rows from b on that can be delivered at row a; the number of rows if none can
unfoldable pub first_row : List ℕ → List ℕ → (ℕ → ℕ) → ℕ → ℕ → ℕ → ℕ → ℕ → ℕ
first_row held floors needs cap a paid rows b = first_of (delivers held floors needs cap a paid) b (rows - b)

-- the answer whether a row was found: row n, or none where n is the number of rows
abbrev pub IsFirst : ℕ → ℕ → Option ℕ → Type 0
IsFirst rows n (Some b) = (b < rows) × (b ≡ n)
IsFirst rows n None = rows ≡ n

-- the first k entries of an area are xs; a remainder too short for an entry and the length are as they were
pub record Written (w : ℕ) (xs before after : List ℕ) (k : ℕ) : Type 0 where
  pub front : take k (entries w after) ≡ xs
  pub remainder_kept : remainder w after ≡ remainder w before
  pub length_kept : length after ≡ length before

-- the places and the sums of the plan of so many steps stand in the two areas
pub record Walked (w : Work) (steps : ℕ) (places places' sums sums' : List ℕ) : Type 0 where
  pub places_are : Written 2 (map (λ s. s.place) (forwards w mark steps start)) places places' steps
  pub sums_are : Written 4 (map (λ s. s.paid) (forwards w mark steps start)) sums sums' steps

-- room for so many steps in the areas of places and sums
pub record Room (steps : ℕ) (places sums : List ℕ) : Type 0 where
  pub places_room : steps ≤ length (entries 2 places)
  pub sums_room : steps ≤ length (entries 4 sums)

-- what reading a plan forwards needs: what each row needs in its steps, and room in the areas
pub record CanWalk (w : Work) (reached firsts floors : List ℕ) (steps : ℕ) (places sums : List ℕ) : Type 0 where
  pub reaches : Reached w reached firsts floors steps
  pub room : Room steps places sums

-- ---- the whole search

-- what it asks: a price within the limit, a table whose cells rise, a cost and a value for each row, and room for the most steps
pub record Fitted (t : Terms) (us costs values : List ℕ) (most : ℕ) (places sums : List ℕ) : Type 0 where
  pub within : t.sides.price ≤ limit
  pub good : Table t us
  pub small : Small us
  pub costs_all : length costs ≡ rows_of us
  pub values_all : length values ≡ rows_of us
  pub rise : Rise us costs values
  pub early : most < never
  pub room : Room most places sums

-- what it finds: the number of steps, if there is one, and the plan in the areas; else they stay
pub record Found (w : Work) (most : ℕ) (r : Option ℕ) (places places' sums sums' : List ℕ) : Type 0 where
  pub count_is : r ≡ steps_found w most
  pub written : (n : ℕ) → r ≡ Some n → Walked w n places places' sums sums'
  pub places_kept : r ≡ None → places' ≡ places
  pub sums_kept : r ≡ None → sums' ≡ sums
