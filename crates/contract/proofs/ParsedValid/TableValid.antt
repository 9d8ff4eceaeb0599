-- A table that was read is valid. Assumes nothing.
use mathlib.Core.Path.{◌≡◌, ◌∙◌, subst}
use mathlib.Core.Bool.{true}
use mathlib.Core.List.{List}
use Prim.Native.Nat.{ℕ}
use lib.Dec.{eqb}
use lib.ListN.{length, take}
use lib.Seq.{take-length}
use Rattle.area.specs.Entries.{entries}
use Rattle.grid.specs.Rows.{rows_of, rising}
use Rattle.grid.proofs.FillLaws.{filled_length}
use Rattle.contract.specs.Res.{ok}
use Rattle.contract.specs.Contract.{Contract}
use Rattle.contract.specs.Field.{Head}
use Rattle.contract.specs.Table.{part, all_within, Grid, Layout, table_at, units_of, cells_of, table_contract, table_end, table_body}
use Rattle.contract.specs.Valid.{amounts_within, rises, Valid}
use Rattle.contract.specs.declared.Form.TheVariants.{Table}
use Rattle.contract.proofs.ParsedValid.ResLaws.{ok_inv, bind_inv, test_inv}
use Rattle.contract.proofs.ParsedValid.FieldLaws.{HeadWithin}
use Rattle.contract.proofs.ParsedValid.HeadValid.{headed, within_limit_lem}
use Rattle.contract.proofs.ParsedValid.CellsWithin.{filled_within}
use Rattle.contract.proofs.ParsedValid.TableLaws.{TableRead, table_read}

-- the cells of a grid: as many as the rows, within the limit, and none below that of a row with one unit less
record Cells (s : List ℕ) (t : Layout) (g : Grid) : Type 0 where
  counted : length (cells_of s t g) ≡ rows_of (take (length (units_of s t)) (units_of s t))
  within : amounts_within Table (units_of s t) (cells_of s t g) ≡ true
  rise : rises Table (units_of s t) (cells_of s t g) ≡ true

pub cells_length : (s : List ℕ) (t : Layout) (g : Grid) → length (cells_of s t g) ≡ t.rows
unfolding cells_of
cells_length s t g = filled_length _ _ _ t.rows

cells_within : (s : List ℕ) (t : Layout) (g : Grid) → all_within (entries 4 (part g.cells g.end s)) ≡ true → all_within (cells_of s t g) ≡ true
unfolding cells_of
cells_within s t g e = filled_within _ _ _ t.rows e

cells_read : (s : List ℕ) (t : Layout) (g : Grid) → t.rows ≡ rows_of (units_of s t) → all_within (entries 4 (part g.cells g.end s)) ≡ true
    → rising (units_of s t) (cells_of s t g) t.rows ≡ true → Cells s t g
unfolding amounts_within rises
cells_read s t g e w r =
    record { counted = rw (take-length (units_of s t)) (cells_length s t g ∙ e); within = cells_within s t g w; rise = rw cells_length r }

contract_valid : (s : List ℕ) (h : Head) (t : Layout) → HeadWithin h.price h.supplier h.buyer → TableRead s t
    → Cells s t t.costs → Cells s t t.values → Valid (table_contract s (headed Table h) t)
unfolding table_contract
contract_valid s h t w r c v =
    record {
      range = r.range;
      units_counted = take-length (units_of s t);
      costs_counted = c.counted;
      values_counted = v.counted;
      within = within_limit_lem _ w c.within v.within;
      costs_rise = c.rise;
      values_rise = v.rise;
    }

pub table_valid : (s : List ℕ) (h : Head) (k : Contract) → HeadWithin h.price h.supplier h.buyer
    → table_body s (headed Table h) ≡ ok k → Valid k
unfolding table_body table_end
table_valid s h k w e =
    let (t, et, e₁) = bind_inv (table_at s h.next) _ e in
    let (_, e₂) = test_inv (eqb t.values.end (length s)) _ _ e₁ in
    let (c, e₃) = test_inv (rising (units_of s t) (cells_of s t t.costs) t.rows) _ _ e₂ in
    let (v, e₄) = test_inv (rising (units_of s t) (cells_of s t t.values) t.rows) _ _ e₃ in
    let r : TableRead s t = table_read s h.next t et in
    subst Valid (ok_inv e₄)
    (contract_valid s h t w r (cells_read s t t.costs r.rows r.costs c) (cells_read s t t.values r.rows r.values v))
