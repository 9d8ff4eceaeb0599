-- A ladder in its record: the costs and values of its units, and the deal along them.
use Rattle.std.specs.Prelude.{◌≡◌, List, ℕ, ◌+◌, ◌*◌, ◌≤◌, length}
use Rattle.area.specs.Entries.{column, entries}
use Rattle.exchange.specs.Deal.{Deal}
use Rattle.exchange.specs.Forms.{ladder}
use Rattle.line.specs.Code.{sum_to}
use Rattle.ladder.specs.declared.Ladder.{Ladder}

-- the rises of cost: "for each unit the rise of cost and the rise of value, four bytes each"
abbrev pub costs_in : Ladder → List ℕ → List ℕ
costs_in l s = column 4 s l.first 8 l.all.units

-- the rises of value
abbrev pub values_in : Ladder → List ℕ → List ℕ
values_in l s = column 4 s (l.first + 4) 8 l.all.units

-- the deal of a ladder
abbrev pub deal_in : Ladder → List ℕ → Deal
deal_in l s = ladder l.sides (costs_in l s) (values_in l s)

-- the rises lie within the record, at most 1,000, and the totals are theirs
pub record Lies (l : Ladder) (s : List ℕ) : Type 0 where
  pub within : l.first + l.all.units * 8 ≤ length s
  pub few : l.all.units ≤ 1000
  pub cost_is : l.all.cost ≡ sum_to (costs_in l s) l.all.units
  pub value_is : l.all.value ≡ sum_to (values_in l s) l.all.units

-- both areas have an entry for each step that there may be
pub record Room (l : Ladder) (places sums : List ℕ) : Type 0 where
  pub places_room : 2 * l.all.units + 1 ≤ length (entries 2 places)
  pub sums_room : 2 * l.all.units + 1 ≤ length (entries 4 sums)
