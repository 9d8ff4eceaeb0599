-- Laws of order bytes: of the item with a number, of a count, of zeros and of items named once. Assumes nothing.
use mathlib.Core.Path.{◌≡◌, refl, sym}
use mathlib.Core.Bool.{Bool, true, false, cond, ◌&&◌, and-false}
use mathlib.Core.List.{List, ◌∷◌}
use Prim.Native.Nat.{ℕ, zero, suc, ◌+◌, ◌-◌, ◌≤◌, ◌<◌}
use native.Mathlib.Decide.{ℕ_discrete}
use native.Mathlib.Numerals.{add-one}
use native.Mathlib.Omega.{arith}
use lib.Dec.{eqb}
use lib.ListN.{length, get_or, take, drop}
use lib.Seq.{take-add, drop_at, length-take-le}
use borrow.Author.Tests.{ne_eqb}
use Rattle.std.specs.List.{count_by, list_all}
use Rattle.std.proofs.lemmas.List.Recursion.{is_sum_by, same_from_clauses}
use Rattle.exchange.specs.Forms.{occurs}
use Rattle.exchange.specs.Named.{each_once}
use Rattle.order.specs.Bytes.{all_zero, names_each}

-- a number that is not 0 names the item before it, counted from 0
pub numbered_at : (amounts : List ℕ) (b : ℕ) → 0 < b → get_or (0 ∷ amounts) b 0 ≡ get_or amounts (b - 1) 0
numbered_at amounts zero h = absurd (omega arith)
numbered_at amounts (suc b) h = let e : suc b - 1 ≡ b = omega arith in rw e

-- a count, as the library counts
pub count_is : (b : ℕ) (s : List ℕ) → count_by (λ x. eqb x b) s ≡ occurs b s
unfolding occurs
count_is b s = sym (is_sum_by (occurs b) (λ x. cond (eqb x b) 1 0) refl (λ _ _. refl) s)

-- zeros, as the library tests all elements
pub zeros_is : (s : List ℕ) → list_all (λ x. eqb x 0) s ≡ all_zero s
unfolding all_zero
zeros_is s = same_from_clauses (list_all (λ x. eqb x 0)) all_zero (λ x t. eqb x 0 && t) refl (λ _ _. refl) (λ _ _. refl) s

-- ---- each item once

pub each_none : (s : List ℕ) → each_once 0 s ≡ true
unfolding each_once
each_none s = refl

-- one item more
pub each_more : (j : ℕ) (s : List ℕ) → each_once j s ≡ true → occurs (j + 1) s ≡ 1 → each_once (j + 1) s ≡ true
unfolding each_once
each_more j s h q = rw add-one (rw (rw add-one at q, h))

-- an item that does not stand once
pub each_fails : (j n : ℕ) (s : List ℕ) → j < n → (occurs (j + 1) s ≡ 1 → ⊥) → each_once n s ≡ false
unfolding each_once
each_fails j zero s h q = absurd (omega arith)
each_fails j (suc n) s h q = go (ℕ_discrete n j) (λ l. each_fails j n s l q)
  where
    go : Dec (n ≡ j) → (j < n → each_once n s ≡ false) → each_once (suc n) s ≡ false
    go (yes e) rest = rw (ne_eqb (occurs (suc n) s) 1 (λ f. q (rw (← e, add-one) f)))
    go (no e) rest = rw (rest (omega arith), and-false)

-- ---- each item once, and then zeros

-- a part from n on is what is left of the part up to its end
drop_take : (n m : ℕ) (s : List ℕ) → n ≤ m → n ≤ length s → drop n (take m s) ≡ take (m - n) (drop n s)
drop_take n m s h l =
    let e : n + (m - n) ≡ m = omega arith in
    rw (← e, take-add n (m - n) s, drop_at (take n s) _ n (length-take-le n s l), e)

-- of an area whose parts before and after byte n are tested
module _ (n : ℕ) (order : List ℕ) (t : Bool) (first : t ≡ each_once n (take n order)) where
  pub names_twice : t ≡ false → false ≡ names_each n order
  unfolding names_each
  names_twice q = rw (← first, q)

  pub names_zeros : t ≡ true → n ≤ 8 → 8 ≤ length order → all_zero (take (8 - n) (drop n order)) ≡ names_each n order
  unfolding names_each
  names_zeros q h l = rw (← first, q, drop_take n 8 order h (omega arith))
