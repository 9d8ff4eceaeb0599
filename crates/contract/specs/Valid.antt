-- Which contracts have a record.
use Rattle.std.specs.Prelude.{◌≡◌, Bool, true, ◌&&◌, List, [], ◌∷◌, ℕ, ◌+◌, ◌*◌, leb, ltb, length, replicate}
use Rattle.grid.specs.Rows.{rows_of, rising}
use Rattle.contract.specs.Contract.{Contract, limit, count_of, units_in, entries_in}
use Rattle.contract.specs.Table.{all_within}
use Rattle.contract.specs.declared.Form.{Form}
use Rattle.contract.specs.declared.Form.TheVariants.{Ladder, UnitPrices, Table}

-- whether each item has 1 to 255 units
unfoldable pub units_in_range : List ℕ → Bool
units_in_range [] = true
units_in_range (u ∷ us) = ltb 0 u && leb u 255 && units_in_range us

-- all units together
unfoldable pub sum : List ℕ → ℕ
sum [] = 0
sum (u ∷ us) = u + sum us

-- whether count, units and rows are in range: refusal 5
unfoldable pub in_range : Form → ℕ → List ℕ → Bool
in_range Ladder n us = ltb 0 n && leb n 1000
in_range UnitPrices n us = ltb 0 n && leb n 8 && units_in_range us && leb (sum us) 1000
in_range Table n us = ltb 0 n && leb n 4 && units_in_range us && leb (rows_of us) 128

-- the total of amounts, u units of each
unfoldable pub total : List ℕ → List ℕ → ℕ
total [] amounts = 0
total (u ∷ us) [] = 0
total (u ∷ us) (a ∷ rest) = u * a + total us rest

-- the units of each segment: one of a ladder's
abbrev pub segment_units : Form → List ℕ → List ℕ → List ℕ
segment_units Ladder us cs = replicate (length cs) 1
segment_units UnitPrices us cs = us
segment_units Table us cs = us

-- whether these costs, or values, and their total are within the limit; the total of a table is its last cell
unfoldable pub amounts_within : Form → List ℕ → List ℕ → Bool
amounts_within Ladder us amounts = all_within amounts && leb (total (segment_units Ladder us amounts) amounts) limit
amounts_within UnitPrices us amounts = all_within amounts && leb (total us amounts) limit
amounts_within Table us amounts = all_within amounts

-- whether every amount and total is within the limit: refusal 4
unfoldable pub within_limit : Contract → Bool
within_limit k =
    leb k.price limit && leb k.supplier limit && leb k.buyer limit
    && amounts_within k.form k.units k.costs
    && amounts_within k.form k.units k.values

-- whether no cell of a table is below that of a row with one unit less of one item: refusal 6
unfoldable pub rises : Form → List ℕ → List ℕ → Bool
rises Ladder us cells = true
rises UnitPrices us cells = true
rises Table us cells = rising us cells (length cells)

-- how many costs, and how many values, a contract has by its counts
abbrev pub entries_of : Contract → ℕ
entries_of k = entries_in k.form (count_of k.form k.units k.costs) k.units

-- a contract that has a record
pub record Valid (k : Contract) : Type 0 where
  pub range : in_range k.form (count_of k.form k.units k.costs) k.units ≡ true
  pub units_counted : units_in k.form (count_of k.form k.units k.costs) k.units ≡ k.units
  pub costs_counted : length k.costs ≡ entries_of k
  pub values_counted : length k.values ≡ entries_of k
  pub within : within_limit k ≡ true
  pub costs_rise : rises k.form k.units k.costs ≡ true
  pub values_rise : rises k.form k.units k.values ≡ true
