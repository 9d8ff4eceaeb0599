-- Blank cells: what the reader fills in, and what the writer may leave out.
use Rattle.std.specs.Prelude.{◌≡◌, Bool, cond, not, ◌&&◌, List, [], ◌∷◌, ◌++◌, ℕ, zero, suc, ◌*◌, ltb, eqb, length, get_or}
use Rattle.area.specs.Entries.{up_to}
use Rattle.grid.specs.Rows.{rows_of, largest_below, rising}
use Rattle.grid.specs.Map.{stands, standing, packed}
use Rattle.grid.specs.Units.{Small}

-- the cell of row r, after those before it: the next given one where its bit stands, else the largest one unit below
abbrev pub cell_of : List ℕ → List ℕ → List ℕ → List ℕ → ℕ → ℕ
cell_of us map given cells r = cond (stands map r) (get_or given (standing map r) 0) (largest_below us cells r)

-- the cells of the first n rows, blanks filled
unfoldable pub filled : List ℕ → List ℕ → List ℕ → ℕ → List ℕ
filled us map given zero = []
filled us map given (suc r) =
    let cells : List ℕ = filled us map given r in
    cells ++ (cell_of us map given cells r ∷ [])

-- whether the cell of row r, of n, has to be given: left blank it would not be restored
unfoldable pub given : List ℕ → List ℕ → ℕ → ℕ → Bool
given us cells n r = ltb r n && not (eqb (get_or cells r 0) (largest_below us cells r))

-- the map, w bytes long, of the cells that have to be given
unfoldable pub row_map : List ℕ → List ℕ → ℕ → ℕ → List ℕ
row_map us cells n w = up_to w (λ k. packed (given us cells n) (8 * k) 8)

-- a table of at most four items and at most 128 rows, with a cell for each row
pub record Sized (us cells : List ℕ) : Type 0 where
  pub small : Small us
  pub long : length cells ≡ rows_of us

-- what filling leaves: every cell, and whether none is below that of a row with one unit less of one item
pub record Fills (us map gs before : List ℕ) (rises : Bool) (after : List ℕ) : Type 0 where
  pub cells_are : after ≡ filled us map gs (length before)
  pub rises_is : rises ≡ rising us after (length after)
