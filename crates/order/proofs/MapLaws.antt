-- An array mapped by a closure that keeps what it captures. Assumes nothing.
use mathlib.Core.Path.{◌≡◌, refl, sym, ◌∙◌}
use mathlib.Core.List.{List, map}
use Prim.Native.Nat.{ℕ, zero, suc, ◌+◌, ◌≤◌, ◌<◌}
use native.Mathlib.Decide.{ℕ_discrete}
use native.Mathlib.Omega.{arith}
use lib.ListN.{length, get_or, length-map}
use denote.Param.Members.{Mut}
use Rattle.std.specs.Array.{IsMapOf, MapsFrom}
use Rattle.std.specs.Fn.{Called}
use Rattle.std.proofs.lemmas.List.{same_lists}
use Rattle.std.proofs.lemmas.Grind.{common_steps}

module _ {F A B : Type 0} (g : Mut F (A × Unit {0}) B) (f : F) (h : A → B) (calls : (x : A) (y : B) (q : F) → Called g f (x, tt) y q → (q ≡ f) × (y ≡ h x))
    (xs : List A) (ys : List B) where
  each_is : (n i : ℕ) (p : F) → p ≡ f → MapsFrom g p xs ys i n → (k : ℕ) → i ≤ k → k < i + n → (d : A) (e : B) → get_or ys k e ≡ h (get_or xs k d)
  each_is zero i p s m k l u d e = absurd (omega arith)
  each_is (suc n) i p s (q, x, y, at_x, at_y, call, rest) k l u d e = go (ℕ_discrete k i) (λ z. each_is n (i + 1) q (called.0) rest k (omega arith) (omega arith) d e)
    where
      called : (q ≡ f) × (y ≡ h x)
      called = calls x y q (rw s at call)

      go : Dec (k ≡ i) → ((k ≡ i → ⊥) → get_or ys k e ≡ h (get_or xs k d)) → get_or ys k e ≡ h (get_or xs k d)
      go (yes z) next = rw (z, at_y.1 e, at_x.1 d) called.1
      go (no z) next = next z

  pub is_map : (n : ℕ) → length xs ≡ n → IsMapOf g f xs ys n → A → ys ≡ map h xs
  is_map n size m d =
      same_lists ys (map h xs) (m.long ∙ sym size ∙ sym (length-map xs h))
      (λ k e l. each_is n 0 f refl m.each k (omega arith) (omega (arith, m.long)) d e ∙ sym (grind (arith, common_steps)))
