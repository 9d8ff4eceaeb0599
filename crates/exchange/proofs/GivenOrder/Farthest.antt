-- The greatest place whose floor is covered by a sum. Assumes nothing.
use mathlib.Core.Path.{◌≡◌}
use mathlib.Core.Bool.{cond}
use Prim.Native.Nat.{ℕ, zero, suc, ◌≤◌}
use native.Mathlib.Nat.{le_refl}
use native.Mathlib.Decide.{dec_le, ℕ_discrete}
use native.Mathlib.Omega.{arith}
use lib.Dec.{leb}
use borrow.Author.Tests.{le-leb, lt-leb}

-- the greatest place of 0 .. n whose floor is at most p; 0 if none is
unfoldable pub farthest : (ℕ → ℕ) → ℕ → ℕ → ℕ
farthest floor p zero = 0
farthest floor p (suc n) = cond (leb (floor (suc n)) p) (suc n) (farthest floor p n)

-- r is that place
pub record Farthest (floor : ℕ → ℕ) (p n r : ℕ) : Type 0 where
  pub within : r ≤ n
  pub covered : floor 0 ≤ p → floor r ≤ p
  pub greatest : (x : ℕ) → x ≤ n → floor x ≤ p → x ≤ r

pub farthest_is : (floor : ℕ → ℕ) (p n : ℕ) → Farthest floor p n (farthest floor p n)
unfolding farthest
farthest_is floor p zero = record { within = le_refl 0; covered = λ h. h; greatest = λ x h c. h }
farthest_is floor p (suc n) = go (dec_le (floor (suc n)) p) (farthest_is floor p n)
  where
    go : Dec (floor (suc n) ≤ p) → Farthest floor p n (farthest floor p n) → Farthest floor p (suc n) (farthest floor p (suc n))
    go (yes c) r = rw (le-leb (floor (suc n)) p c) (record { within = le_refl _; covered = λ h. c; greatest = λ x h c. h })
    go (no c) r =
        rw (lt-leb (floor (suc n)) p (omega arith))
        (record {
          within = omega arith;
          covered = r.covered;
          greatest = λ x h d. below x d h (ℕ_discrete x (suc n));
        })
      where
        below : (x : ℕ) → floor x ≤ p → x ≤ suc n → Dec (x ≡ suc n) → x ≤ farthest floor p n
        below x d h (yes e) = absurd (c (rw e at d))
        below x d h (no e) = r.greatest x (omega arith) d
