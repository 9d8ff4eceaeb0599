-- The rows each item takes a unit, which callers pass on, and the largest cell one unit below, by the units in a row's word.
use Rattle.std.specs.Prelude.{◌≡◌, cond, List, ℕ, zero, suc, ◌-◌, ◌/◌, ◌%◌, ◌^◌, ◌≤◌, ◌<◌, max, ltb, length, get_or, drop}
use Rattle.grid.specs.Rows.{rows_of}

-- how many rows each item takes a unit, the last item first
pub record Strides (us strides : List ℕ) : Type 0 where
  pub first : get_or strides 0 0 ≡ 1
  pub stride_at : (i : ℕ) → i < length us → get_or strides i 0 ≡ rows_of (drop (length us - i) us)

-- the largest cell with one unit less of one of the last n items, by the units in row r's word; 0 where the row has none
unfoldable pub below_by : List ℕ → ℕ → List ℕ → ℕ → ℕ → ℕ
below_by strides word cells r zero = 0
below_by strides word cells r (suc i) =
    max (below_by strides word cells r i) (cond (ltb 0 (word / 256 ^ i % 256)) (get_or cells (r - get_or strides i 0) 0) 0)

-- row r has a cell, and if it has a unit of an item, a row k before it
pub record Under (cells : List ℕ) (r k unit : ℕ) : Type 0 where
  pub row : r < length cells
  pub some : 0 < unit → 0 < k
  pub before : 0 < unit → k ≤ r

-- what the code knows of row r: the rows below it by its word, and the cell of the row before it, if there is one
pub record RowAt (strides cells : List ℕ) (r word last : ℕ) : Type 0 where
  pub first : get_or strides 0 0 ≡ 1
  pub under : (i : ℕ) → Under cells r (get_or strides i 0) (word / 256 ^ i % 256)
  pub last_is : 0 < r → last ≡ get_or cells (r - 1) 0
