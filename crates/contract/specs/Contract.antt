-- A contract, and the numbers of the refusals.
use Rattle.std.specs.Prelude.{List, [], ◌++◌, ℕ, ◌-◌, length, take, replicate}
use Rattle.grid.specs.Rows.{rows_of}
use Rattle.contract.specs.declared.Form.{Form}
use Rattle.contract.specs.declared.Form.TheVariants.{Ladder, UnitPrices, Table}
use Rattle.contract.specs.declared.Header.{Header}
use Rattle.contract.specs.declared.Refusal.{Refusal}
use Rattle.contract.specs.declared.Refusal.TheVariants.{Truncated, Map, Value, Limit, Range, Falling, Trailing, Short}

-- "at most 1,000,000,000": the largest amount and the largest total
abbrev pub limit : ℕ
limit = 1_000_000_000

-- the number of each refusal
abbrev pub number_of : Refusal → ℕ
number_of Truncated = 1
number_of Map = 2
number_of Value = 3
number_of Limit = 4
number_of Range = 5
number_of Falling = 6
number_of Trailing = 7
number_of Short = 8

-- a contract: P, the supplier's and the buyer's defection costs, the units of each item (none of a ladder),
-- and a cost and a value for each unit of a ladder, each item with unit prices or each row of a table
pub record Contract : Type 0 where
  pub price : ℕ
  pub supplier : ℕ
  pub buyer : ℕ
  pub form : Form
  pub units : List ℕ
  pub costs : List ℕ
  pub values : List ℕ

-- the units of a ladder, else the items
abbrev pub count_of : Form → List ℕ → List ℕ → ℕ
count_of Ladder us cs = length cs
count_of UnitPrices us cs = length us
count_of Table us cs = length us

-- the header of a contract: its items' units are followed by zeros
abbrev pub header_of : Contract → Header
header_of k =
    record {
      price = k.price;
      supplier = k.supplier;
      buyer = k.buyer;
      form = k.form;
      count = count_of k.form k.units k.costs;
      units = k.units ++ replicate (8 - length k.units) 0;
    }

-- the units of each item that a header counts
abbrev pub units_in : Form → ℕ → List ℕ → List ℕ
units_in Ladder n us = []
units_in UnitPrices n us = take n us
units_in Table n us = take n us

-- how many costs, and how many values, belong to a header
abbrev pub entries_in : Form → ℕ → List ℕ → ℕ
entries_in Ladder n us = n
entries_in UnitPrices n us = n
entries_in Table n us = rows_of (take n us)

-- the contract of a header with the costs and values at the front of two areas
abbrev pub contract_of : Header → List ℕ → List ℕ → Contract
contract_of h cs vs =
    record {
      price = h.price;
      supplier = h.supplier;
      buyer = h.buyer;
      form = h.form;
      units = units_in h.form h.count h.units;
      costs = take (entries_in h.form h.count h.units) cs;
      values = take (entries_in h.form h.count h.units) vs;
    }
