-- The least floor among those of the rows that can follow a row. Assumes nothing.
use mathlib.Core.Path.{◌≡◌, refl, sym, ap, subst}
use mathlib.Core.Bool.{Bool, true, false, cond}
use Prim.Native.Nat.{ℕ, zero, suc, min, ◌≤◌, ◌<◌}
use native.Mathlib.Nat.{le_refl}
use native.Mathlib.Decide.{dec_le, ℕ_discrete}
use native.Mathlib.Omega.{arith}
use lib.Dec.{T}
use Rattle.exchange.specs.Work.{Work}
use Rattle.exchange.specs.Search.{follows, least_floor}

-- a row below n that can follow row a and has the floor v
pub record Attained (w : Work) (needs : ℕ → ℕ) (a n v : ℕ) : Type 0 where
  pub row : ℕ
  pub below : row < n
  pub follow : T (follows w needs a row)
  pub floor_is : v ≡ w.floor row

-- v is the least floor among those of the rows below n that can follow row a, or the mark
pub record IsLeast (w : Work) (mark : ℕ) (needs : ℕ → ℕ) (a n v : ℕ) : Type 0 where
  pub marked : v ≤ mark
  pub attained : v < mark → Attained w needs a n v
  pub least : (b : ℕ) → b < n → T (follows w needs a b) → v ≤ w.floor b

module _ (w : Work) (mark : ℕ) where
  pub floor_is_least : (needs : ℕ → ℕ) (a n : ℕ) → IsLeast w mark needs a n (least_floor w mark needs a n)
  unfolding least_floor
  floor_is_least needs a zero =
      record { marked = le_refl mark; attained = λ (h : mark < mark). absurd (omega arith); least = λ b (h : b < 0) t. absurd (omega arith) }
  floor_is_least needs a (suc n) = go (follows w needs a n) refl (least_floor w mark needs a n) (floor_is_least needs a n)
    where
      up : {v u : ℕ} → Attained w needs a n v → u ≡ v → Attained w needs a (suc n) u
      up x e = record { row = x.row; below = omega arith; follow = x.follow; floor_is = omega arith }

      go : (x : Bool) → follows w needs a n ≡ x → (r : ℕ) → IsLeast w mark needs a n r → IsLeast w mark needs a (suc n) (cond x (min (w.floor n) r) r)
      go true e r l =
          record {
            marked = omega arith;
            attained = λ h. here h (dec_le (w.floor n) r);
            least = λ b h t. under b h t (ℕ_discrete b n);
          }
        where
          here : min (w.floor n) r < mark → Dec (w.floor n ≤ r) → Attained w needs a (suc n) (min (w.floor n) r)
          here h (yes q) = record { row = n; below = le_refl _; follow = subst T (sym e) tt; floor_is = omega arith }
          here h (no q) = up (l.attained (omega arith)) (omega arith)

          under : (b : ℕ) → b < suc n → T (follows w needs a b) → Dec (b ≡ n) → min (w.floor n) r ≤ w.floor b
          under b h t (yes q) = omega (arith, ap w.floor q)
          under b h t (no q) = omega (arith, l.least b (omega arith) t)
      go false e r l =
          record {
            marked = l.marked;
            attained = λ h. up (l.attained h) refl;
            least = λ b h t. under b h t (ℕ_discrete b n);
          }
        where
          under : (b : ℕ) → b < suc n → T (follows w needs a b) → Dec (b ≡ n) → r ≤ w.floor b
          under b h t (yes q) = absurd (subst T e (subst (λ (m : ℕ). T (follows w needs a m)) q t))
          under b h t (no q) = l.least b (omega arith) t

  -- only what the rows below n need counts
  pub floor_ext : (f g : ℕ → ℕ) (a n : ℕ) → ((b : ℕ) → b < n → f b ≡ g b) → least_floor w mark f a n ≡ least_floor w mark g a n
  unfolding least_floor
  floor_ext f g a zero h = refl
  floor_ext f g a (suc n) h = rw (h n (le_refl _), floor_ext f g a n (λ b l. h b (omega arith)))
