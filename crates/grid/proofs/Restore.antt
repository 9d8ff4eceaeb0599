-- What the writer leaves out the reader restores: filling the cells that stand in a table's map gives the table's cells. Assumes nothing.
use mathlib.Core.Path.{◌≡◌, refl, sym, ap₂, ◌∙◌}
use mathlib.Core.Bool.{Bool, true, false, cond}
use mathlib.Core.List.{List, [], ◌∷◌, ◌++◌}
use Prim.Native.Nat.{ℕ, zero, suc, ◌+◌, ◌*◌, ◌≤◌, ◌<◌}
use native.Mathlib.Decide.{dec_lt}
use native.Mathlib.Omega.{arith}
use borrow.Author.Tests.{lt-ltb, eqb-true, not-false}
use lib.ListN.{length, get_or, take, length-append, get_or-append}
use lib.Seq.{take-suc, get_or-take, get_or_at}
use Rattle.grid.specs.Rows.{largest_below}
use Rattle.grid.specs.Map.{bit_at, stands, standing, standing_cells}
use Rattle.grid.specs.Cells.{cell_of, filled, given, row_map}
use Rattle.grid.proofs.RowLaws.{largest_ext}
use Rattle.grid.proofs.MapLaws.{bit_take, not_standing}
use Rattle.grid.proofs.MarkLaws.{map_bit}

-- ---- the cells that stand

pub cells_length : (map cells : List ℕ) (n : ℕ) → length (standing_cells map cells n) ≡ standing map n
unfolding standing_cells standing
cells_length map cells zero = refl
cells_length map cells (suc n) = simp length-append (ap₂ ◌+◌ (cells_length map cells n) (go (stands map n) refl))
  where
    go : (t : Bool) → stands map n ≡ t → length (cond t (get_or cells n 0 ∷ []) []) ≡ bit_at map n
    go true e = sym (eqb-true _ _ e)
    go false e = sym (not_standing map n e)

-- a map's front says as much of its rows as the map
pub cells_take : (map cells : List ℕ) (w n : ℕ) → n ≤ 8 * w → standing_cells (take w map) cells n ≡ standing_cells map cells n
unfolding standing_cells
cells_take map cells w zero h = refl
cells_take map cells w (suc n) h = rw (bit_take map w n h, cells_take map cells w n (omega arith))

-- a row that stands counts before every later row
standing_lt : (map : List ℕ) (r n : ℕ) → stands map r ≡ true → r < n → standing map r < standing map n
unfolding standing
standing_lt map r zero e h = absurd (omega arith)
standing_lt map r (suc n) e h = go (dec_lt r n) (standing_lt map r n e)
  where
    go : Dec (r < n) → (r < n → standing map r < standing map n) → standing map r < standing map n + bit_at map n
    go (yes l) rec = let less : standing map r < standing map n = rec l in omega arith
    go (no m) rec =
        let same : r ≡ n = omega arith in
        rw (← same) (omega (arith, eqb-true (bit_at map r) 1 e))

-- the cell of a row that stands
pub cells_at : (map cells : List ℕ) (n r : ℕ) → stands map r ≡ true → r < n → get_or (standing_cells map cells n) (standing map r) 0 ≡ get_or cells r 0
unfolding standing_cells
cells_at map cells zero r e h = absurd (omega arith)
cells_at map cells (suc n) r e h = go (dec_lt r n) (cells_at map cells n r e)
  where
    go : Dec (r < n) → (r < n → get_or (standing_cells map cells n) (standing map r) 0 ≡ get_or cells r 0)
        → get_or (standing_cells map cells n ++ cond (stands map n) (get_or cells n 0 ∷ []) []) (standing map r) 0 ≡ get_or cells r 0
    go (yes l) rec =
        get_or-append (standing_cells map cells n) _ 0 (standing map r) (rw cells_length (standing_lt map r n e l)) ∙ rec l
    go (no m) rec =
        let same : n ≡ r = omega arith in
        rw (same, e) (get_or_at (standing_cells map cells r) (get_or cells r 0) [] 0 (standing map r) (cells_length map cells r))

-- ---- the cells are restored

module _ (us cells : List ℕ) (n w : ℕ) (fits : n ≤ length cells) (room : n ≤ 8 * w) where
  cell_restored : (r : ℕ) → r < n → cell_of us (row_map us cells n w) (standing_cells (row_map us cells n w) cells n) (take r cells) r ≡ get_or cells r 0
  unfolding given
  cell_restored r h = go (given us cells n r) refl
    where
      map : List ℕ
      map = row_map us cells n w

      bit : bit_at map r ≡ cond (given us cells n r) 1 0
      bit = map_bit us cells n w r (omega arith)

      go : (t : Bool) → given us cells n r ≡ t → cell_of us map (standing_cells map cells n) (take r cells) r ≡ get_or cells r 0
      go true e =
          let s : stands map r ≡ true = rw (bit, e) in
          rw s (cells_at map cells n r s h)
      go false e =
          let s : stands map r ≡ false = rw (bit, e) in
          let same : get_or cells r 0 ≡ largest_below us cells r = eqb-true _ _ (not-false _ (rw (lt-ltb r n h) at e)) in
          rw s (largest_ext us (take r cells) cells r (λ i l. get_or-take r cells i 0 l) ∙ sym same)

  restored_to : (r : ℕ) → r ≤ n → filled us (row_map us cells n w) (standing_cells (row_map us cells n w) cells n) r ≡ take r cells
  unfolding filled
  restored_to zero h = refl
  restored_to (suc r) h = rw (restored_to r (omega arith), cell_restored r h) (sym (take-suc cells r 0 (omega arith)))

  pub restored : filled us (row_map us cells n w) (standing_cells (row_map us cells n w) cells n) n ≡ take n cells
  restored = restored_to n (omega arith)
