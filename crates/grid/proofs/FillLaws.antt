-- Filling a table's cells row by row. Assumes nothing.
use mathlib.Core.Path.{◌≡◌, refl, sym, ap, ap₂, ◌∙◌}
use mathlib.Core.Bool.{Bool, true, cond, ◌&&◌}
use mathlib.Core.List.{List, [], ◌∷◌, ◌++◌, append-nil}
use Prim.Native.Nat.{ℕ, zero, suc, ◌+◌, ◌-◌, ◌≤◌, ◌<◌}
use native.Mathlib.Numerals.{add-one}
use native.Mathlib.Omega.{arith}
use borrow.Author.Tests.{eq-eqb}
use lib.Dec.{leb}
use lib.ListN.{length, get_or, set, take, drop, length-append, length-drop, drop_of_length-le}
use lib.Seq.{take-suc, drop-cons, append_snoc, set_at, get_or-set_same, get_or-set_other}
use Rattle.grid.specs.Rows.{largest_below, rising}
use Rattle.grid.specs.Map.{bit_at, stands, standing}
use Rattle.grid.specs.Cells.{cell_of, filled, Fills}
use Rattle.grid.proofs.RowLaws.{largest_ext, largest_front, rising_ext}
use Rattle.grid.proofs.MapLaws.{bit_le, standing_le}

pub filled_length : (us map gs : List ℕ) (n : ℕ) → length (filled us map gs n) ≡ n
unfolding filled
filled_length us map gs zero = refl
filled_length us map gs (suc n) = simp length-append (ap (λ (k : ℕ). k + 1) (filled_length us map gs n) ∙ add-one n)

-- one store after a front of r elements
front_store : (p d : List ℕ) (r v : ℕ) → length p ≡ r → r < length d → set (p ++ drop r d) r v ≡ (p ++ v ∷ []) ++ drop (suc r) d
front_store p d r v l h = rw (drop-cons d r 0 h) (set_at p (get_or d r 0) (drop (suc r) d) v r l ∙ sym (append_snoc p v (drop (suc r) d)))

-- the first r rows are filled, and the others as before; the last filled cell, and whether those filled rise
pub record Filling (us map gs before cells : List ℕ) (used last : ℕ) (rises : Bool) (r : ℕ) : Type 0 where
  pub within : r ≤ length before
  pub cells_are : cells ≡ filled us map gs r ++ drop r before
  pub used_is : used ≡ standing map r
  pub last_is : 0 < r → last ≡ get_or cells (r - 1) 0
  pub rises_is : rises ≡ rising us cells r

pub filling_start : (us map gs before : List ℕ) → Filling us map gs before before 0 0 true 0
unfolding filled standing rising
filling_start us map gs before = record { within = omega arith; cells_are = refl; used_is = refl; last_is = λ h. absurd (omega arith); rises_is = refl }

module _ {us map gs before cells : List ℕ} {used last : ℕ} {rises : Bool} {r : ℕ} (f : Filling us map gs before cells used last rises r) where
  pub filling_length : length cells ≡ length before
  filling_length =
      let l : length (filled us map gs r) ≡ r = filled_length us map gs r in
      ap length f.cells_are ∙ simp (length-append, length-drop) (omega (arith, f.within))

  -- one row more
  pub filling_turn : {below v used' : ℕ} {rises' : Bool} → r < length cells → below ≡ largest_below us cells r → v ≡ cond (stands map r) (get_or gs used 0) below
      → used' ≡ used + bit_at map r → rises' ≡ (rises && leb below v) → Filling us map gs before (set cells r v) used' v rises' (r + 1)
  unfolding filled standing rising
  filling_turn {below} {v} h eb ev eu er =
      let l : r < length before = rw filling_length at h in
      let known : length (filled us map gs r) ≡ r = filled_length us map gs r in
      let b : below ≡ largest_below us (filled us map gs r) r = eb ∙ rw f.cells_are (largest_front us (filled us map gs r) (drop r before) r (omega arith)) in
      let value : v ≡ cell_of us map gs (filled us map gs r) r = ev ∙ rw (f.used_is, b) in
      let one : suc r - 1 ≡ r = omega arith in
      rw add-one
      (record {
        within = omega arith;
        cells_are = ap (λ (xs : List ℕ). set xs r v) f.cells_are ∙ front_store (filled us map gs r) before r v known l ∙ rw (← value);
        used_is = eu ∙ rw f.used_is;
        last_is = λ _. rw one (sym (get_or-set_same cells r v 0 h));
        rises_is =
            er
            ∙ sym
            (ap₂ ◌&&◌ (rising_ext us (set cells r v) cells r kept ∙ sym f.rises_is)
            (ap₂ leb (largest_ext us (set cells r v) cells r kept ∙ sym eb) (get_or-set_same cells r v 0 h)));
      })
    where
      kept : (i : ℕ) → i < r → get_or (set cells r v) i 0 ≡ get_or cells i 0
      kept i l = get_or-set_other cells r i v 0 (λ z. omega arith)

  pub filling_done : length cells ≤ r → Fills us map gs before rises cells
  filling_done h =
      let l : length cells ≡ length before = filling_length in
      let e : length cells ≡ r = omega (arith, f.within) in
      record {
        cells_are = f.cells_are ∙ rw (drop_of_length-le before {i = r} (omega arith), append-nil, ← l, e);
        rises_is = rw e f.rises_is;
      }

-- where every row stands, the cells are the given ones in order
pub all_filled : (us map gs : List ℕ) (n : ℕ) → standing map n ≡ n → n ≤ length gs → filled us map gs n ≡ take n gs
unfolding filled standing
all_filled us map gs zero s h = refl
all_filled us map gs (suc n) s h =
    let low : standing map n ≡ n = omega (arith, standing_le map n, bit_le map n) in
    let bit : stands map n ≡ true = eq-eqb (bit_at map n) 1 (omega arith) in
    rw (all_filled us map gs n low (omega arith), bit, low) (sym (take-suc gs n 0 h))
