-- A table: the units of each item, and for costs and for values a row map with the cells that stand.
use Rattle.std.specs.Prelude.{Bool, true, ◌&&◌, List, [], ◌∷◌, ℕ, zero, suc, ◌+◌, ◌-◌, ◌*◌, leb, eqb, length, take, drop}
use Rattle.area.specs.Entries.{entries}
use Rattle.grid.specs.Rows.{rows_of, rising}
use Rattle.grid.specs.Map.{map_size, bits_from, bit_count}
use Rattle.grid.specs.Cells.{filled}
use Rattle.contract.specs.Res.{Res, ok, bind, test}
use Rattle.contract.specs.Contract.{Contract, limit}
use Rattle.contract.specs.Field.{ranged, Head}

-- the bytes from index a up to index e
abbrev pub part : ℕ → ℕ → List ℕ → List ℕ
part a e s = take (e - a) (drop a s)

-- n units fields from index i on: the index after them
unfoldable pub units_at : List ℕ → ℕ → ℕ → Res ℕ
units_at s zero i = ok i
units_at s (suc n) i = bind (ranged 1 255 s i) (λ a. units_at s n a.next)

-- whether every amount is within the limit
unfoldable pub all_within : List ℕ → Bool
all_within [] = true
all_within (a ∷ rest) = leb a limit && all_within rest

-- where a row map begins, where its cells begin, and the index after them
pub record Grid : Type 0 where
  pub map : ℕ
  pub cells : ℕ
  pub end : ℕ

-- the map of the rows at index m as one field (3: a bit beyond the last row), then its cells as one field (4: one over the limit);
-- "The number of cells is the number of bits that stand in their map"
unfoldable pub grid_at : List ℕ → ℕ → ℕ → Res Grid
grid_at s rows m =
    let i : ℕ = m + map_size rows in
    let e : ℕ = i + 4 * bit_count (part m i s) in
    test 1 (leb i (length s)) (
    test 3 (eqb (bits_from (part m i s) rows) 0) (
    test 1 (leb e (length s)) (
    test 4 (all_within (entries 4 (part i e s))) (
    ok (record { map = m; cells = i; end = e })))))

-- where a table's units lie, its rows, and its two grids
pub record Layout : Type 0 where
  pub units : ℕ
  pub units_end : ℕ
  pub rows : ℕ
  pub costs : Grid
  pub values : Grid

-- the rows (5: over 128) and the grids, where the units lie from index i to index e
unfoldable pub grids_at : List ℕ → ℕ → ℕ → Res Layout
grids_at s i e =
    test 5 (leb (rows_of (part i e s)) 128) (
    bind (grid_at s (rows_of (part i e s)) e) (λ c.
    bind (grid_at s (rows_of (part i e s)) c.end) (λ v.
    ok (record { units = i; units_end = e; rows = rows_of (part i e s); costs = c; values = v }))))

-- the fields of a table: the item count, 1 to 4, the units of each item, and the grids
unfoldable pub table_at : List ℕ → ℕ → Res Layout
table_at s i = bind (ranged 1 4 s i) (λ n. bind (units_at s n.value n.next) (λ e. grids_at s n.next e))

-- the units of each item
abbrev pub units_of : List ℕ → Layout → List ℕ
units_of s t = part t.units t.units_end s

-- the cells of a grid's rows, blanks filled
unfoldable pub cells_of : List ℕ → Layout → Grid → List ℕ
cells_of s t g = filled (units_of s t) (part g.map g.cells s) (entries 4 (part g.cells g.end s)) t.rows

-- the contract of a table
unfoldable pub table_contract : List ℕ → Head → Layout → Contract
table_contract s h t =
    record {
      price = h.price;
      supplier = h.supplier;
      buyer = h.buyer;
      form = h.form;
      units = units_of s t;
      costs = cells_of s t t.costs;
      values = cells_of s t t.values;
    }

-- 6: a cell below that of a row with one unit less of one item
unfoldable pub table_end : List ℕ → Head → Layout → Res Contract
table_end s h t =
    test 6 (rising (units_of s t) (cells_of s t t.costs) t.rows) (
    test 6 (rising (units_of s t) (cells_of s t t.values) t.rows) (
    ok (table_contract s h t)))

-- what follows the head of a table: "After the fields: 7, then 6"
unfoldable pub table_body : List ℕ → Head → Res Contract
table_body s h = bind (table_at s h.next) (λ t. test 7 (eqb t.values.end (length s)) (table_end s h t))
