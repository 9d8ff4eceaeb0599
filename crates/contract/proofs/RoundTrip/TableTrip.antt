-- The body of a table is read back. Assumes nothing.
use mathlib.Core.Path.{◌≡◌, ap, ◌∙◌}
use mathlib.Core.Bool.{true}
use mathlib.Core.List.{List, [], ◌∷◌, flat_map}
use Prim.Native.Nat.{ℕ, ◌+◌, ◌≤◌, ◌<◌}
use native.Mathlib.Omega.{arith}
use lib.ListN.{length}
use borrow.Author.Tests.{le-leb, eq-eqb}
use Rattle.area.specs.Entries.{digits}
use Rattle.area.proofs.Laws.{digits_length}
use Rattle.grid.specs.Rows.{rows_of, rising}
use Rattle.contract.specs.Res.{ok}
use Rattle.contract.specs.Field.{Head}
use Rattle.contract.specs.Table.{Grid, Layout, part, all_within, grids_at, table_at, cells_of, table_contract, table_end, table_body}
use Rattle.contract.specs.Valid.{units_in_range}
use Rattle.contract.specs.Serialize.{grid_bytes}
use Rattle.contract.proofs.RoundTrip.Rest.{Rest, past, part_is, at_end}
use Rattle.contract.proofs.RoundTrip.FieldTrip.{ranged_is}
use Rattle.contract.proofs.RoundTrip.UnitsTrip.{units_bytes, units_are}
use Rattle.contract.proofs.RoundTrip.GridTrip.{grid_from, from_end, grid_is, filled_is}

-- a table that fits a record
pub record TableFits (us cs vs : List ℕ) : Type 0 where
  pub low : 0 < length us
  pub high : length us ≤ 4
  pub units : units_in_range us ≡ true
  pub rows : rows_of us ≤ 128
  pub costs_counted : length cs ≡ rows_of us
  pub values_counted : length vs ≡ rows_of us
  pub costs : all_within cs ≡ true
  pub values : all_within vs ≡ true
  pub costs_rise : rising us cs (rows_of us) ≡ true
  pub values_rise : rising us vs (rows_of us) ≡ true

-- where a table lies whose item count is at index i
abbrev layout_from : ℕ → List ℕ → List ℕ → List ℕ → Layout
layout_from i us cs vs =
    let costs : Grid = grid_from (i + 1 + length us) us cs (rows_of us) in
    record { units = i + 1; units_end = i + 1 + length us; rows = rows_of us; costs = costs; values = grid_from costs.end us vs (rows_of us) }

module _ {s : List ℕ} {i : ℕ} {us cs vs : List ℕ} (f : TableFits us cs vs)
    (h : Rest s i (digits 1 (length us) ∷ flat_map (digits 1) us ∷ grid_bytes us cs ∷ grid_bytes us vs ∷ [])) where
  from_units : Rest s (i + 1) (flat_map (digits 1) us ∷ grid_bytes us cs ∷ grid_bytes us vs ∷ [])
  from_units = past (digits_length 1 (length us)) h

  units_length : length (flat_map (digits 1) us) ≡ length us
  units_length = ap length (units_bytes us f.units)

  from_costs : Rest s (i + 1 + length us) (grid_bytes us cs ∷ grid_bytes us vs ∷ [])
  from_costs = past units_length from_units

  from_values : Rest s (layout_from i us cs vs).costs.end (grid_bytes us vs ∷ [])
  from_values = from_end us cs (rows_of us) f.costs_counted from_costs

  all_read : (layout_from i us cs vs).values.end ≡ length s
  all_read = at_end (from_end us vs (rows_of us) f.values_counted from_values)

  units_is : part (i + 1) (i + 1 + length us) s ≡ us
  units_is = part_is units_length from_units ∙ units_bytes us f.units

  layout_is : table_at s i ≡ ok (layout_from i us cs vs)
  unfolding table_at grids_at
  layout_is =
      rw (
        ranged_is 1 (length us) h 4 (omega arith) f.low f.high,
        units_are us f.units from_units,
        units_is,
        le-leb (rows_of us) 128 f.rows,
        grid_is us cs (rows_of us) f.costs_counted from_costs f.costs,
        grid_is us vs (rows_of us) f.values_counted from_values f.values,
      )

  costs_are : cells_of s (layout_from i us cs vs) (layout_from i us cs vs).costs ≡ cs
  unfolding cells_of
  costs_are = rw units_is (filled_is us cs (rows_of us) f.costs_counted from_costs f.costs)

  values_are : cells_of s (layout_from i us cs vs) (layout_from i us cs vs).values ≡ vs
  unfolding cells_of
  values_are = rw units_is (filled_is us vs (rows_of us) f.values_counted from_values f.values)

pub table_body_lem : {s : List ℕ} (h : Head) {us cs vs : List ℕ} → TableFits us cs vs
    → Rest s h.next (digits 1 (length us) ∷ flat_map (digits 1) us ∷ grid_bytes us cs ∷ grid_bytes us vs ∷ [])
    → table_body s h ≡ ok (record { price = h.price; supplier = h.supplier; buyer = h.buyer; form = h.form; units = us; costs = cs; values = vs })
unfolding table_body table_end table_contract
table_body_lem {s} h f r =
    rw (layout_is f r, eq-eqb _ (length s) (all_read f r), costs_are f r, values_are f r, units_is f r, f.costs_rise, f.values_rise)
