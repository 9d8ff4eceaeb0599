-- The parts of a record as the writer stores them, one after the other.
use Rattle.std.specs.Prelude.{◌≡◌, ◌⊎◌, true, cond, ℕ, ltb, length, get_or, Option, Some, None, Result}
use mathlib.Core.List.{List, [], ◌++◌, flat_map}
use Rattle.area.specs.Entries.{digits, up_to}
use Rattle.grid.specs.Rows.{rising}
use Rattle.grid.specs.Map.{map_size, standing_cells}
use Rattle.grid.specs.Cells.{row_map}
use Rattle.contract.specs.Res.{Res}
use Rattle.contract.specs.Contract.{Contract, units_in, entries_in}
use Rattle.contract.specs.Valid.{units_in_range, in_range, within_limit}
use Rattle.contract.specs.Serialize.{map_of, money_bytes, segment_bytes, record_of}
use Rattle.contract.specs.declared.Form.{Form}
use Rattle.contract.specs.declared.Form.TheVariants.{Ladder, UnitPrices, Table}
use Rattle.contract.specs.declared.Header.{Header}
use Rattle.contract.specs.declared.Refusal.{Refusal}
use Rattle.record.specs.Promise.{answer_of, length_of, stored}

-- how many costs, and how many values, belong to a header, if its counts are in range
abbrev pub counted : Header → Option ℕ
counted h = cond (in_range h.form h.count (units_in h.form h.count h.units)) (Some (entries_in h.form h.count h.units)) None

-- the contract of a header with these units, costs and values
abbrev pub contract_with : Header → List ℕ → List ℕ → List ℕ → Contract
contract_with h us cs vs =
    record { price = h.price; supplier = h.supplier; buyer = h.buyer; form = h.form; units = us; costs = cs; values = vs }

-- how many items a header counts: none of a ladder
abbrev pub items_in : Form → ℕ → ℕ
items_in Ladder n = 0
items_in UnitPrices n = n
items_in Table n = n

-- counts in range, and exactly the units, costs and values that they say
pub record Counted (h : Header) (us cs vs : List ℕ) : Type 0 where
  pub eight : length h.units ≡ 8
  pub range : in_range h.form h.count us ≡ true
  pub units_are : us ≡ units_in h.form h.count h.units
  pub costs_counted : length cs ≡ entries_in h.form h.count h.units
  pub values_counted : length vs ≡ entries_in h.form h.count h.units

-- the units of segments: none of a ladder, and at least one of each item with unit prices
abbrev pub Shaped : Form → List ℕ → List ℕ → Type 0
Shaped Ladder us amounts = us ≡ []
Shaped UnitPrices us amounts = (units_in_range us ≡ true) × (length us ≡ length amounts)
Shaped Table us amounts = Unit {0}

-- a ladder or unit prices, in range and within the limit
pub record Segmented (h : Header) (us cs vs : List ℕ) : Type 0 where
  pub counts : Counted h us cs vs
  pub is_run : (h.form ≡ Ladder) ⊎ (h.form ≡ UnitPrices)
  pub within : within_limit (contract_with h us cs vs) ≡ true

-- a table, in range and within the limit
pub record Tabled (h : Header) (us cs vs : List ℕ) : Type 0 where
  pub counts : Counted h us cs vs
  pub is_table : h.form ≡ Table
  pub within : within_limit (contract_with h us cs vs) ≡ true

-- the bytes of the count: two for a ladder, else one
abbrev pub count_size : Form → ℕ
count_size Ladder = 2
count_size UnitPrices = 1
count_size Table = 1

-- the record up to its count
unfoldable pub head_bytes : Header → List ℕ
head_bytes h =
    digits 2 (map_of (contract_with h [] [] [])) ++ money_bytes h.price ++ money_bytes h.supplier ++ money_bytes h.buyer
    ++ digits (count_size h.form) h.count

-- the units of each of n segments: one where none are stated
unfoldable pub each : List ℕ → ℕ → List ℕ
each us n = up_to n (λ i. get_or us i 1)

-- the units of segment i, where they are stated
abbrev pub units_byte : List ℕ → ℕ → List ℕ
units_byte us i = cond (ltb i (length us)) (digits 1 (get_or us i 0)) []

-- segments: as many values as costs, and the units stated of each or of none
pub record Run (us cs vs : List ℕ) : Type 0 where
  pub values_counted : length vs ≡ length cs
  pub stated : (us ≡ []) ⊎ (length us ≡ length cs)

-- the segments: those of a ladder where no units are stated, else those of unit prices
abbrev pub run_bytes : List ℕ → List ℕ → List ℕ → List ℕ
run_bytes us cs vs = segment_bytes (ltb 0 (length us)) (each us (length cs)) cs vs

-- a row map and the cells that stand in it
unfoldable pub grid_with : List ℕ → List ℕ → List ℕ
grid_with map cells = map ++ flat_map (digits 4) (standing_cells map cells (length cells))

-- a table whose cells rise, with the maps of its costs and of its values
pub record Mapped (h : Header) (us cost_map cs value_map vs : List ℕ) : Type 0 where
  pub table : Tabled h us cs vs
  pub cost_map_is : cost_map ≡ row_map us cs (length cs) (map_size (length cs))
  pub value_map_is : value_map ≡ row_map us vs (length vs) (map_size (length vs))
  pub costs_rise : rising us cs (length cs) ≡ true
  pub values_rise : rising us vs (length vs) ≡ true

-- the reply and the output area for what is to be written
pub record Replies (said : Res (List ℕ)) (out : List ℕ) (r : Result ℕ Refusal) (out' : List ℕ) : Type 0 where
  pub answer : answer_of r ≡ length_of said
  pub bytes_after : out' ≡ stored (λ bs. bs) said out

-- the same for a contract whose counts are in range
abbrev pub Answers : Header → List ℕ → List ℕ → List ℕ → List ℕ → Result ℕ Refusal → List ℕ → Type 0
Answers h us cs vs out r out' = Replies (record_of (contract_with h us cs vs) (length out)) out r out'
