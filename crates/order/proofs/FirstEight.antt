-- The first eight bytes of an area. Assumes nothing.
use mathlib.Core.Path.{◌≡◌, refl, sym, ap}
use mathlib.Core.List.{List, [], ◌∷◌, ◌++◌}
use Prim.Native.Nat.{ℕ, zero, suc, min, ◌≤◌}
use native.Mathlib.Numerals.{unary_clauses}
use native.Mathlib.Omega.{arith}
use Rattle.std.proofs.lemmas.List.{take-replicate}
use lib.ListN.{length, take, drop, replicate, length-append, length-replicate}
use lib.Seq.{take-append-le, length-take-le}
use Rattle.order.specs.Bytes.{first_eight}

-- as many of a list as it has, and zeros up to m
filled_up : (m k : ℕ) (bytes : List ℕ) → m ≤ k → take (min (length bytes) m) bytes ++ drop (min (length bytes) m) (replicate m 0) ≡ take m (bytes ++ replicate k 0)
filled_up zero k bytes h = simp unary_clauses refl
filled_up (suc m) k [] h = simp unary_clauses (sym (take-replicate (suc m) k 0 h))
filled_up (suc m) k (b ∷ bytes) h = simp unary_clauses (ap (λ (l : List ℕ). b ∷ l) (filled_up m k bytes (omega arith)))

module _ (order : List ℕ) where
  pub eight_length : length (first_eight order) ≡ 8
  unfolding first_eight
  eight_length = length-take-le 8 (order ++ replicate 8 0) (omega (arith, length-append order (replicate 8 0), length-replicate {A = ℕ} 8 0))

  -- of an area that is long enough
  pub eight_front : 8 ≤ length order → first_eight order ≡ take 8 order
  unfolding first_eight
  eight_front h = take-append-le 8 order _ h

  pub eight_is : (n : ℕ) (front : List ℕ) → n ≡ min (length order) 8 → front ≡ take n order → front ++ drop n (replicate 8 0) ≡ first_eight order
  unfolding first_eight
  eight_is n front e f = rw (f, e) (filled_up 8 8 order (omega arith))
