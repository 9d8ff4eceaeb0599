-- The integers as differences, `sub_ℕ a b` for a − b, so that sums and orders of them are sums and orders in ℕ, which `omega` reads.
-- Assumes nothing.
use mathlib.Core.Path.{◌≡◌, refl, sym, ap, ◌∙◌, subst}
use mathlib.Core.Logic.Iff
use mathlib.Core.Logic.{◌↔◌}
use mathlib.Core.Bool.{Bool, true, false, not, cond}
use Prim.Native.Nat.{ℕ, zero, suc, ◌+◌, ◌-◌, ◌≤◌}
use native.Mathlib.Omega.{arith}
use lib.IntN.{ℤ, pos, negsuc, neg_ℤ, sub_ℕ, ◌+ℤ◌, ◌-ℤ◌, +ℤ_assoc, +ℤ_comm, neg_ℤ-+ℤ}
use lib.Signed.{le_z, lt_z, ◌≤ℤ◌, ◌<ℤ◌, lt_z_yes, lt_z_no, <ℤ-≤ℤ_trans, clash_ℤ}
use lib.Ieee.Bits.{is_true}
use lib.Dec.{T, leb, ltb, leb→le, le→leb, not_T}
use borrow.Author.Tests.{ltb-true, ltb-false, le-ltb, lt-leb, le-leb}
use Rattle.exchange.specs.Bounds.{minℤ, maxℤ}

-- ---- sums

pub pos_is : (a : ℕ) → pos a ≡ sub_ℕ a 0
pos_is a = rw (le-ltb a 0 (omega arith)) (ap pos (omega arith))

pub pos_sub : (a b : ℕ) → pos a -ℤ pos b ≡ sub_ℕ a b
pos_sub a zero = let e : a + 0 ≡ a = omega arith in ap pos e ∙ pos_is a
pos_sub a (suc b) = refl

pub sub_add : (a b c : ℕ) → sub_ℕ a b +ℤ pos c ≡ sub_ℕ (a + c) b
sub_add a b c =
    ap (λ (z : ℤ). z +ℤ pos c) (sym (pos_sub a b)) ∙ +ℤ_assoc (pos a) (neg_ℤ (pos b)) (pos c)
    ∙ ap (λ (z : ℤ). pos a +ℤ z) (+ℤ_comm (neg_ℤ (pos b)) (pos c)) ∙ sym (+ℤ_assoc (pos a) (pos c) (neg_ℤ (pos b))) ∙ pos_sub (a + c) b

pub sub_sub : (a b c : ℕ) → sub_ℕ a b -ℤ pos c ≡ sub_ℕ a (b + c)
sub_sub a b c =
    ap (λ (z : ℤ). z -ℤ pos c) (sym (pos_sub a b)) ∙ +ℤ_assoc (pos a) (neg_ℤ (pos b)) (neg_ℤ (pos c))
    ∙ ap (λ (z : ℤ). pos a +ℤ z) (sym (neg_ℤ-+ℤ (pos b) (pos c))) ∙ pos_sub a (b + c)

-- ---- orders

-- a − b ≤ c − d exactly if a + d ≤ c + b
pub ≤-sub : (a b c d : ℕ) → (sub_ℕ a b ≤ℤ sub_ℕ c d) ↔ (a + d ≤ c + b)
≤-sub a b c d = go (ltb a b) (ltb c d) refl refl
  where
    go : (s t : Bool) → ltb a b ≡ s → ltb c d ≡ t
        → (cond s (negsuc (b - suc a)) (pos (a - b)) ≤ℤ cond t (negsuc (d - suc c)) (pos (c - d))) ↔ (a + d ≤ c + b)
    go true true e f = omega (arith, ltb-true, leb→le, le→leb)
    go true false e f = omega (arith, ltb-true, ltb-false)
    go false true e f = omega (arith, ltb-true, ltb-false)
    go false false e f = omega (arith, ltb-false, leb→le, le→leb)

pub not_less : {x y : ℤ} → (x <ℤ y → ⊥) ↔ (y ≤ℤ x)
not_less {x} {y} = (λ h. lt_z_no (not_T (lt_z x y) (λ t. h (lt_z_yes t))), λ k h. clash_ℤ h k)

pub ≤_trans : {x y z : ℤ} → x ≤ℤ y → y ≤ℤ z → x ≤ℤ z
≤_trans h k = not_less.0 (λ l. clash_ℤ (<ℤ-≤ℤ_trans l h) k)

-- ---- tests

leb_not : (a b : ℕ) → leb b a ≡ not (ltb a b)
leb_not a b = go (ltb a b) refl
  where
    go : (t : Bool) → ltb a b ≡ t → leb b a ≡ not t
    go true e = lt-leb b a (ltb-true a b e)
    go false e = le-leb b a (ltb-false a b e)

pub le_z_not : (x y : ℤ) → le_z y x ≡ not (lt_z x y)
le_z_not (pos a) (pos b) = leb_not a b
le_z_not (pos a) (negsuc b) = refl
le_z_not (negsuc a) (pos b) = refl
le_z_not (negsuc a) (negsuc b) = leb_not b a

pub le_z_true : (x y : ℤ) → (le_z x y ≡ true) ↔ (x ≤ℤ y)
le_z_true x y = (λ e. record { le = rw e tt }, λ h. is_true (le_z x y) h.le)

-- two tests that pass together are the same
pub test_same : (a b : Bool) → ((a ≡ true) ↔ (b ≡ true)) → a ≡ b
test_same true b same = sym (same.0 refl)
test_same false true same = same.1 refl
test_same false false same = refl

pub le_z_same : (x y u v : ℤ) → ((x ≤ℤ y) ↔ (u ≤ℤ v)) → le_z x y ≡ le_z u v
le_z_same x y u v same = test_same _ _ (Iff.trans (le_z_true x y) (Iff.trans same (Iff.symm (le_z_true u v))))

-- ---- the smaller and the greater of two

less_≤ : (x y : ℤ) → lt_z x y ≡ true → x ≤ℤ y
less_≤ (pos a) (pos b) e = let h = ltb-true a b e in record { le = le→leb a b (omega arith) }
less_≤ (pos a) (negsuc b) e = absurd (subst T (sym e) tt)
less_≤ (negsuc a) (pos b) e = record { le = tt }
less_≤ (negsuc a) (negsuc b) e = let h = ltb-true b a e in record { le = le→leb b a (omega arith) }

pub not_less_≤ : (x y : ℤ) → lt_z x y ≡ false → y ≤ℤ x
not_less_≤ x y e = lt_z_no (rw e tt)

module _ (x y z : ℤ) where
  pub ≤-min : (z ≤ℤ minℤ x y) ↔ ((z ≤ℤ x) × (z ≤ℤ y))
  ≤-min = go (lt_z x y) refl
    where
      go : (t : Bool) → lt_z x y ≡ t → (z ≤ℤ cond t x y) ↔ ((z ≤ℤ x) × (z ≤ℤ y))
      go true e = (λ h. (h, ≤_trans h (less_≤ x y e)), λ h. h.0)
      go false e = (λ h. (≤_trans h (not_less_≤ x y e), h), λ h. h.1)

  pub max_≤ : (maxℤ x y ≤ℤ z) ↔ ((x ≤ℤ z) × (y ≤ℤ z))
  max_≤ = go (lt_z y x) refl
    where
      go : (t : Bool) → lt_z y x ≡ t → (cond t x y ≤ℤ z) ↔ ((x ≤ℤ z) × (y ≤ℤ z))
      go true e = (λ h. (h, ≤_trans (less_≤ y x e) h), λ h. h.0)
      go false e = (λ h. (≤_trans (not_less_≤ y x e) h, h), λ h. h.1)
