-- The rows of a table: numbers in mixed radix, the last item running fastest.
use Rattle.std.specs.Prelude.{Bool, true, cond, ◌&&◌, List, [], ◌∷◌, ℕ, zero, suc, ◌+◌, ◌-◌, ◌*◌, ◌/◌, ◌%◌, ◌≤◌, ◌<◌, max, ltb, leb, length, get_or}

-- the number of rows, the product of (units + 1), where these are the units of each item
unfoldable pub rows_of : List ℕ → ℕ
rows_of [] = 1
rows_of (u ∷ us) = rows_of us * (u + 1)

-- the cell of the row with one unit less of an item, which has u units and takes k rows a unit; 0 where row r has no unit of it
unfoldable pub less_one : ℕ → ℕ → List ℕ → ℕ → ℕ
less_one u k cells r = cond (ltb 0 (r / k % (u + 1))) (get_or cells (r - k) 0) 0

-- the largest cell among the rows with one unit less of one item, items with no unit passed over; 0 for row 0
unfoldable pub largest_below : List ℕ → List ℕ → ℕ → ℕ
largest_below [] cells r = 0
largest_below (u ∷ us) cells r = max (largest_below us cells r) (less_one u (rows_of us) cells r)

-- no cell of the first n rows is below that of a row with one unit less of one item
unfoldable pub rising : List ℕ → List ℕ → ℕ → Bool
rising us cells zero = true
rising us cells (suc r) = rising us cells r && leb (largest_below us cells r) (get_or cells r 0)

-- there is a cell, and none is above the last one
pub record LastLargest (cells : List ℕ) : Type 0 where
  pub some : 0 < length cells
  pub last : (r : ℕ) → r < length cells → get_or cells r 0 ≤ get_or cells (length cells - 1) 0
