-- The first number that passes a test. Assumes nothing.
use mathlib.Core.Path.{◌≡◌, refl, sym, subst}
use mathlib.Core.Bool.{Bool, true, false, cond}
use Prim.Native.Nat.{ℕ, zero, suc, ◌+◌, ◌≤◌, ◌<◌}
use native.Mathlib.Nat.{le_refl}
use native.Mathlib.Decide.{ℕ_discrete}
use native.Mathlib.Omega.{arith}
use lib.Dec.{T}
use Rattle.exchange.specs.Search.{first_of}

-- r is the first of the k numbers from i on that passes, or i + k if none does
pub record IsFirst (test : ℕ → Bool) (i k r : ℕ) : Type 0 where
  pub from : i ≤ r
  pub within : r ≤ i + k
  pub passes : r < i + k → T (test r)
  pub least : (m : ℕ) → i ≤ m → T (test m) → r ≤ m

pub first_is : (test : ℕ → Bool) (i k : ℕ) → IsFirst test i k (first_of test i k)
unfolding first_of
first_is test i zero = record { from = le_refl i; within = omega arith; passes = λ (h : i < i + 0). absurd (omega arith); least = λ m h t. h }
first_is test i (suc k) = go (test i) refl (first_is test (suc i) k)
  where
    go : (x : Bool) → test i ≡ x → IsFirst test (suc i) k (first_of test (suc i) k) → IsFirst test i (suc k) (cond x i (first_of test (suc i) k))
    go true e f = record { from = le_refl i; within = omega arith; passes = λ h. subst T (sym e) tt; least = λ m h t. h }
    go false e f =
        record {
          from = omega arith;
          within = omega arith;
          passes = λ h. f.passes (omega arith);
          least = λ m h t. later m h t (ℕ_discrete m i);
        }
      where
        later : (m : ℕ) → i ≤ m → T (test m) → Dec (m ≡ i) → first_of test (suc i) k ≤ m
        later m h t (yes q) = absurd (subst T e (subst (λ (n : ℕ). T (test n)) q t))
        later m h t (no n) = f.least m (omega arith) t
