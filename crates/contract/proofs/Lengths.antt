-- How many bytes are written. Assumes nothing.
use mathlib.Core.Path.{◌≡◌, refl, sym, ◌∙◌}
use mathlib.Core.Bool.{Bool, true, false, cond}
use mathlib.Core.List.{List, [], ◌∷◌, ◌++◌, flat_map}
use Prim.Native.Nat.{ℕ, ◌+◌, ◌*◌}
use native.Mathlib.Nat.{suc_inj}
use native.Mathlib.Omega.{arith}
use lib.Dec.{eqb}
use lib.ListN.{length, length-append}
use Rattle.area.specs.Entries.{digits}
use Rattle.area.proofs.Laws.{digits_length}
use Rattle.grid.specs.Map.{map_size, bit_count, standing_cells}
use Rattle.grid.specs.Cells.{row_map}
use Rattle.grid.proofs.MapLaws.{count_rows}
use Rattle.grid.proofs.MarkLaws.{map_length, map_bytes, map_rest}
use Rattle.grid.proofs.Restore.{cells_length}
use Rattle.contract.specs.Contract.{Contract}
use Rattle.contract.specs.Segments.{size}
use Rattle.contract.specs.Serialize.{money_bytes, segment_bytes, grid_bytes, body_bytes, serialize}

-- P, cs or cd
pub money_length : (v : ℕ) → length (money_bytes v) ≡ cond (eqb v 0) 0 4
unfolding money_bytes
money_length v = go (eqb v 0)
  where
    go : (z : Bool) → length (cond z [] (digits 4 v)) ≡ cond z 0 4
    go true = refl
    go false = digits_length 4 v

-- a segment, and all of them
pub segment_length : (p : Bool) (u c v : ℕ) → length (cond p (digits 1 u) [] ++ digits 4 c ++ digits 4 v) ≡ size p
segment_length false u c v = simp (length-append, digits_length)
segment_length true u c v = simp (length-append, digits_length)

pub segments_length : (p : Bool) (us cs vs : List ℕ) → length us ≡ length cs → length vs ≡ length cs → length (segment_bytes p us cs vs) ≡ length cs * size p
unfolding segment_bytes
segments_length p [] [] vs e f = omega arith
segments_length p [] (c ∷ cs) vs e f = absurd (omega arith)
segments_length p (u ∷ us) [] vs e f = absurd (omega arith)
segments_length p (u ∷ us) (c ∷ cs) [] e f = absurd (omega arith)
segments_length p (u ∷ us) (c ∷ cs) (v ∷ vs) e f =
    rw (length-append, segment_length p u c v, segments_length p us cs vs (suc_inj e) (suc_inj f)) (omega arith)

-- numbers of w bytes each
pub digits_all_length : (w : ℕ) (xs : List ℕ) → length (flat_map (digits w) xs) ≡ w * length xs
unfolding flat_map
digits_all_length w [] = omega arith
digits_all_length w (x ∷ xs) = simp (length-append, digits_length) (omega (arith, digits_all_length w xs))

-- the map and the cells that are written of a grid of n rows
abbrev pub grid_map : List ℕ → List ℕ → ℕ → List ℕ
grid_map us cells n = row_map us cells n (map_size n)

abbrev pub grid_cells : List ℕ → List ℕ → ℕ → List ℕ
grid_cells us cells n = standing_cells (grid_map us cells n) cells n

-- as many bits stand as there are cells
pub bits_are : (us cells : List ℕ) (n : ℕ) → bit_count (grid_map us cells n) ≡ length (grid_cells us cells n)
bits_are us cells n =
    count_rows (grid_map us cells n) n (map_bytes us cells n (map_size n)) (map_length us cells n (map_size n)) (map_rest us cells n (map_size n))
    ∙ sym (cells_length (grid_map us cells n) cells n)

-- a row map and its cells
pub grid_length : (us cells : List ℕ) (n : ℕ) → length cells ≡ n → length (grid_bytes us cells) ≡ map_size n + 4 * length (grid_cells us cells n)
unfolding grid_bytes
grid_length us cells n e = rw e (simp (length-append, map_length, digits_all_length))

-- where the body of a contract's record begins, and its bytes
abbrev pub body_from : Contract → ℕ
body_from k = 2 + length (money_bytes k.price) + length (money_bytes k.supplier) + length (money_bytes k.buyer)

abbrev pub body_of : Contract → List ℕ
body_of k = body_bytes k.form k.units k.costs k.values

-- the whole record
pub record_length : (k : Contract) → length (serialize k) ≡ body_from k + length (body_of k)
unfolding serialize
record_length k = simp (length-append, digits_length)
