-- The cells of a table that were written are read back. Assumes nothing.
use mathlib.Core.Path.{◌≡◌, refl}
use mathlib.Core.Bool.{Bool, true, false, cond}
use mathlib.Core.List.{List, [], ◌∷◌, ◌++◌, flat_map, flatten, append_assoc}
use Prim.Native.Nat.{ℕ, zero, suc, ◌+◌, ◌*◌, ◌≤◌}
use native.Mathlib.Omega.{arith}
use lib.ListN.{length, get_or}
use lib.Seq.{take_all}
use borrow.Author.Tests.{le-leb}
use Rattle.area.specs.Entries.{digits, up_to, entries}
use Rattle.area.proofs.Laws.{digits_length, entries_append, entries_digits}
use Rattle.grid.specs.Map.{map_size, stands, standing_cells}
use Rattle.grid.specs.Cells.{filled}
use Rattle.grid.proofs.MarkLaws.{map_length, map_rest}
use Rattle.grid.proofs.Restore.{restored}
use Rattle.contract.specs.Res.{ok}
use Rattle.contract.specs.Contract.{limit}
use Rattle.contract.specs.Table.{Grid, part, all_within, grid_at}
use Rattle.contract.specs.Serialize.{grid_bytes}
use Rattle.contract.proofs.RoundTrip.Rest.{Rest, cut, past, room, part_is}
use Rattle.contract.proofs.Lengths.{digits_all_length, grid_map, grid_cells, bits_are}
use Rattle.contract.proofs.FirstEntry.{within_first}

entries_are : (xs : List ℕ) → all_within xs ≡ true → entries 4 (flat_map (digits 4) xs) ≡ xs
unfolding flat_map entries up_to
entries_are [] h = refl
entries_are (x ∷ xs) h =
    let (small, more) = within_first x xs h in
    rw (entries_append 4 1 (digits 4 x) _ (omega arith) (digits_length 4 x), entries_digits 4 x (omega arith) (omega arith), entries_are xs more)

-- ---- the cells that stand are within the limit

within_append : (xs ys : List ℕ) → all_within xs ≡ true → all_within ys ≡ true → all_within (xs ++ ys) ≡ true
unfolding all_within
within_append [] ys h g = g
within_append (x ∷ xs) ys h g =
    let (small, more) = within_first x xs h in
    rw (le-leb x limit small) (within_append xs ys more g)

within_at : (xs : List ℕ) (r : ℕ) → all_within xs ≡ true → get_or xs r 0 ≤ limit
within_at [] r h = omega arith
within_at (x ∷ xs) zero h = (within_first x xs h).0
within_at (x ∷ xs) (suc r) h = within_at xs r (within_first x xs h).1

standing_within : (map cells : List ℕ) (n : ℕ) → all_within cells ≡ true → all_within (standing_cells map cells n) ≡ true
unfolding standing_cells all_within
standing_within map cells zero h = refl
standing_within map cells (suc r) h = within_append (standing_cells map cells r) _ (standing_within map cells r h) (go (stands map r))
  where
    go : (b : Bool) → all_within (cond b (get_or cells r 0 ∷ []) []) ≡ true
    go true = rw (le-leb (get_or cells r 0) limit (within_at cells r h))
    go false = refl

-- ---- a grid

-- where a grid lies whose map is at index m
abbrev pub grid_from : ℕ → List ℕ → List ℕ → ℕ → Grid
grid_from m us cells n = record { map = m; cells = m + map_size n; end = m + map_size n + 4 * length (grid_cells us cells n) }

module _ (us cells : List ℕ) (n : ℕ) (e : length cells ≡ n) {s : List ℕ} {m : ℕ} {ps : List (List ℕ)} (h : Rest s m (grid_bytes us cells ∷ ps)) where
  from_map : Rest s m (grid_map us cells n ∷ flat_map (digits 4) (grid_cells us cells n) ∷ ps)
  unfolding grid_bytes flatten
  from_map = cut _ (rw e (simp append_assoc)) h

  map_size_lem : length (grid_map us cells n) ≡ map_size n
  map_size_lem = map_length us cells n (map_size n)

  from_cells : Rest s (m + map_size n) (flat_map (digits 4) (grid_cells us cells n) ∷ ps)
  from_cells = past map_size_lem from_map

  cells_size : length (flat_map (digits 4) (grid_cells us cells n)) ≡ 4 * length (grid_cells us cells n)
  cells_size = digits_all_length 4 (grid_cells us cells n)

  pub from_end : Rest s (grid_from m us cells n).end ps
  from_end = past cells_size from_cells

  module _ (w : all_within cells ≡ true) where
    cells_within : all_within (grid_cells us cells n) ≡ true
    cells_within = standing_within (grid_map us cells n) cells n w

    cells_are : entries 4 (part (m + map_size n) (grid_from m us cells n).end s) ≡ grid_cells us cells n
    cells_are = rw (part_is cells_size from_cells) (entries_are (grid_cells us cells n) cells_within)

    pub grid_is : grid_at s n m ≡ ok (grid_from m us cells n)
    unfolding grid_at
    grid_is =
        rw (
          le-leb (m + map_size n) (length s) (room map_size_lem from_map),
          part_is map_size_lem from_map,
          map_rest us cells n (map_size n),
          bits_are us cells n,
          le-leb (grid_from m us cells n).end (length s) (room cells_size from_cells),
          cells_are,
          cells_within,
        )

    -- the blanks are filled
    pub filled_is : filled us (part m (m + map_size n) s) (entries 4 (part (m + map_size n) (grid_from m us cells n).end s)) n ≡ cells
    filled_is = rw (part_is map_size_lem from_map, cells_are, restored us cells n (map_size n) (omega arith) (omega arith)) (take_all n cells (omega arith))
