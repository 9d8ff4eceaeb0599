-- A bound as a sum of coins, by the signs that the code tests. Assumes nothing.
use mathlib.Core.Path.{◌≡◌, refl, subst}
use mathlib.Core.Bool.{true, false}
use Prim.Native.Nat.{ℕ, ◌+◌, ◌-◌, min, ◌≤◌, ◌<◌}
use native.Mathlib.Omega.{arith}
use borrow.Author.Tests.{ltb-true, ltb-false, le-ltb}
use lib.Dec.{T}
use lib.IntN.{ℤ, pos, negsuc, nat_abs}
use lib.Signed.{lt_z, non_neg, mag, ◌≤ℤ◌, ≤ℤ_refl}
use Rattle.exchange.specs.Bounds.{unclipped_lower_of, upper_of, lower_of}
use Rattle.exchange.specs.Rule.{coins}
use Rattle.exchange.proofs.Int.{max_≤}
use Rattle.exchange.proofs.BoundLaws.{upper_is}
use Rattle.exchange.proofs.Clipped.{most_same}

pub coins_none : (z : ℤ) → lt_z z (pos 0) ≡ true → 0 ≡ coins z
coins_none (pos n) e = let h = ltb-true n 0 e in omega arith
coins_none (negsuc n) e = refl

pub coins_some : (z : ℤ) → pos 0 ≤ℤ z → T (non_neg z) × (nat_abs z ≡ coins z) × (nat_abs z ≡ mag z)
coins_some (pos n) h = (tt, refl, refl)
coins_some (negsuc n) h = absurd h.le

pub coins_under : (z : ℤ) (P : ℕ) → lt_z z (pos 0) ≡ false → lt_z z (pos P) ≡ true → coins z < P
coins_under (pos n) P e f = ltb-true n P f
coins_under (negsuc n) P e f = absurd (subst T e tt)

pub coins_over : (z : ℤ) (P : ℕ) → lt_z z (pos 0) ≡ false → lt_z z (pos P) ≡ false → P ≤ coins z
coins_over (pos n) P e f = ltb-false n P f
coins_over (negsuc n) P e f = absurd (subst T e tt)

-- the most that is paid where the price covers the whole cost: no upper bound is below 0 then
pub most_covered : (P vs_l vs cs : ℕ) → vs_l ≤ P → min (P - vs_l + vs + cs) P ≡ min (coins (upper_of P vs_l vs cs)) P
most_covered P vs_l vs cs h =
    rw (most_same P vs_l vs cs, upper_is P vs_l vs cs, le-ltb (P + vs + cs) vs_l (omega arith)) (omega arith)

-- no lower bound is below 0
pub lower_some : (P vd_l vd cd : ℕ) → pos 0 ≤ℤ lower_of P vd_l vd cd
unfolding lower_of
lower_some P vd_l vd cd = ((max_≤ (unclipped_lower_of P vd_l vd cd) (pos 0) _).0 (≤ℤ_refl _)).1
