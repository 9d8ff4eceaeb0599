-- Laws of a table's cells and of what is said of them. Assumes nothing.
use mathlib.Core.Path.{◌≡◌, sym, ◌∙◌}
use mathlib.Core.Bool.{Bool, true, false, and-eq-true_iff}
use mathlib.Core.List.{List, ◌++◌}
use Prim.Native.Nat.{ℕ, ◌-◌, ◌/◌}
use native.Mathlib.Omega.{arith}
use borrow.Author.Tests.{eqb-true}
use lib.Dec.{leb, eqb}
use lib.ListN.{length, drop, replicate, length-drop}
use lib.Seq.{length-take-le, take-length}
use Rattle.area.specs.Entries.{entries, column}
use Rattle.area.proofs.Laws.{entries_length}
use Rattle.grid.specs.Rows.{rows_of, rising, LastLargest}
use Rattle.grid.specs.Map.{standing}
use Rattle.grid.specs.Cells.{Sized, Fills}
use Rattle.grid.proofs.LastLaws.{last_largest}
use Rattle.grid.proofs.FillLaws.{all_filled}
use Rattle.contract.specs.Res.{refused, ok, test}
use Rattle.contract.specs.Contract.{header_of}
use Rattle.contract.specs.Field.{Head}
use Rattle.contract.specs.Parse.{sized}
use Rattle.contract.specs.Table.{Layout, Grid, part, units_of, cells_of, table_contract, table_end}
use Rattle.contract.specs.declared.Form.TheVariants.{Table}
use Rattle.contract.proofs.ParsedValid.TableValid.{cells_length}
use Rattle.record.specs.View.Answer.{header_with}
use Rattle.record.specs.View.Table.{Items, Laid, Within, RisesIs, Filled, grid_of, given_in, given_rise, grid_cells}
use Rattle.record.specs.declared.table.Grid as code
use Rattle.record.proofs.TableLaws.{column_bytes}

units_length : {s : List ℕ} (t : Layout) → Items s t.units t.units_end → length (units_of s t) ≡ t.units_end - t.units
units_length {s} t p = length-take-le (t.units_end - t.units) (drop t.units s) (simp length-drop (omega (arith, p.begin, p.within)))

-- what filling a grid's cells left, and whether they rise
pub record CellsRead (s : List ℕ) (t : Layout) (g : Grid) (b : Bool) (cells : List ℕ) : Type 0 where
  pub cells_are : cells ≡ cells_of s t g
  pub rises_is : rising (units_of s t) (cells_of s t g) t.rows ≡ b

pub cells_read : {s us before cells : List ℕ} {b : Bool} (t : Layout) (g : Grid) → us ≡ units_of s t → length before ≡ t.rows
    → Fills us (part g.map g.cells s) (entries 4 (part g.cells g.end s)) before b cells → CellsRead s t g b cells
unfolding cells_of
cells_read {s} {us} {before} {cells} {b} t g e l f =
    let c : cells ≡ cells_of s t g = f.cells_are ∙ rw (e, l) in
    record { cells_are = c; rises_is = sym (f.rises_is ∙ rw (c, e, cells_length s t g)) }

-- what the code says of a grid: every cell is given, and none falls
given_all : (us gs : List ℕ) → given_rise us gs ≡ true → (length gs ≡ rows_of us) × (rising us gs (rows_of us) ≡ true)
given_all us gs e =
    let both = (and-eq-true_iff (eqb (length gs) (rows_of us)) (rising us gs (rows_of us))).0 e in
    (eqb-true _ _ both.0, both.1)

pub given_last : (us gs : List ℕ) → given_rise us gs ≡ true → LastLargest gs
given_last us gs e = let all = given_all us gs e in last_largest us gs all.0 all.1

-- then the given cells are the cells of the grid
pub given_fills : {s us before : List ℕ} (g : code.Grid) → Within s (length before) (grid_of g) → Sized us before → RisesIs s us g → g.rises ≡ true
    → Filled s us (grid_of g) before true (grid_cells s g before)
given_fills {s} {us} {before} g w sized said e =
    let gs : List ℕ = given_in s (grid_of g) in
    let map : List ℕ = part g.map g.cells s in
    let all = given_all us gs (sym said ∙ e) in
    let long : length (part g.cells g.end s) ≡ g.end - g.cells = length-take-le (g.end - g.cells) (drop g.cells s) (simp length-drop (omega (arith, w.cells_end, w.within))) in
    let count : length gs ≡ (g.end - g.cells) / 4 = entries_length 4 (part g.cells g.end s) ∙ rw long in
    let stand : standing map (length before) ≡ length before = omega (arith, w.counted, all.0, sized.long) in
    let n : length before ≡ length gs = sized.long ∙ sym all.0 in
    rw e
    (record {
      cells_are = sym (all_filled us map gs (length before) stand (omega arith) ∙ rw (n, take-length gs));
      rises_is = sym (rw all.0 all.1);
    })

-- as grid functions ask for them
pub cells_sized : {s us cells : List ℕ} (t : Layout) → Laid s t → us ≡ units_of s t → length cells ≡ t.rows → Sized us cells
cells_sized {s} {us} t h e l =
    let items : length us ≡ t.units_end - t.units = rw e (units_length t h.items) in
    let rows : t.rows ≡ rows_of us = rw e h.rows_are in
    record { small = record { items = omega (arith, h.items.few); rows = omega (arith, h.rows_le) }; long = l ∙ rows }

-- what is said of cells that fall, and of those that rise
pub said_costs_fall : (s : List ℕ) (h : Head) (t : Layout) → rising (units_of s t) (cells_of s t t.costs) t.rows ≡ false → table_end s h t ≡ refused 6
unfolding table_end
said_costs_fall s h t e = simp e

pub said_values_fall : (s : List ℕ) (h : Head) (t : Layout) → rising (units_of s t) (cells_of s t t.costs) t.rows ≡ true
    → rising (units_of s t) (cells_of s t t.values) t.rows ≡ false → table_end s h t ≡ refused 6
unfolding table_end
said_values_fall s h t e f = simp (e, f)

pub said_cells : (s : List ℕ) (h : Head) (t : Layout) (a b : ℕ) → rising (units_of s t) (cells_of s t t.costs) t.rows ≡ true
    → rising (units_of s t) (cells_of s t t.values) t.rows ≡ true
    → sized (table_end s h t) a b ≡ test 8 (leb t.rows a) (test 8 (leb t.rows b) (ok (table_contract s h t)))
unfolding sized table_end table_contract
said_cells s h t a b e f = simp (e, f, cells_length)

-- the header of a table's contract
pub table_header : {s us : List ℕ} (h : Head) (t : Layout) → Items s t.units t.units_end → h.form ≡ Table
    → us ≡ column 1 s t.units 1 (t.units_end - t.units) ++ replicate (8 - (t.units_end - t.units)) 0
    → header_with h (t.units_end - t.units) us ≡ header_of (table_contract s h t)
unfolding table_contract
table_header {s} {us} h t p e q =
    let n : ℕ = t.units_end - t.units in
    rw (e, units_length t p, q, column_bytes s t.units n (omega (arith, p.begin, p.within)))
