-- Rising, row by row as the code tests it. Only the code's own functions cite this, no promise.
use Rattle.std.specs.Prelude.{Bool, true, cond, ◌&&◌, List, ℕ, zero, suc, ◌+◌, ◌-◌, ◌/◌, ◌%◌, ◌≤◌, ◌<◌, ltb, leb, length, get_or}

-- whether the n rows from row `from` on pass a test
unfoldable pub all_rows : (ℕ → Bool) → ℕ → ℕ → Bool
all_rows test from zero = true
all_rows test from (suc n) = all_rows test from n && test (from + n)

-- the cell of row r is not below that of the row k before it
abbrev pub not_below : ℕ → List ℕ → ℕ → Bool
not_below k cells r = leb (get_or cells (r - k) 0) (get_or cells r 0)

-- the same for a row with a unit of the item that takes k rows a unit; one without passes
abbrev pub unit_not_below : ℕ → ℕ → List ℕ → ℕ → Bool
unit_not_below unit k cells r = leb (cond (ltb 0 unit) (get_or cells (r - k) 0) 0) (get_or cells r 0)

-- the cell of row r is not below those with one unit less of the last item, of the two before it, which take a and b rows a unit, or of
-- the one that takes k, of which it has a unit
unfoldable pub row_rises : ℕ → ℕ → ℕ → ℕ → List ℕ → ℕ → Bool
row_rises word a b k cells r =
    ((unit_not_below (word % 256) 1 cells r && unit_not_below (word / 256 % 256) a cells r) && unit_not_below (word / 65536 % 256) b cells r)
    && not_below k cells r

-- the same by the words of all rows
abbrev pub rows_by : List ℕ → ℕ → ℕ → ℕ → List ℕ → ℕ → Bool
rows_by words a b k cells r = row_rises (get_or words r 0) a b k cells r

-- row r has a cell, and so have the rows that it is compared with
pub record Compared (cells : List ℕ) (r a b k : ℕ) : Type 0 where
  pub row : r < length cells
  pub some : 0 < r
  pub second : a ≤ r
  pub third : b ≤ r
  pub first : k ≤ r

-- so it is with the rows from row k up to row `to`, at most 128
pub record Segment (cells : List ℕ) (a b k to : ℕ) : Type 0 where
  pub some : 0 < k
  pub second : a ≤ k
  pub third : b ≤ k
  pub order : k ≤ to
  pub end : to ≤ length cells
  pub few : to ≤ 128
