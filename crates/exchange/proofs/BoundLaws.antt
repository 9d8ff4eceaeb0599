-- The bounds, safe states and gains by defecting as orders of sums in ℕ, with no subtraction. Assumes nothing.
use mathlib.Core.Path.{◌≡◌}
use mathlib.Core.Logic.Iff
use mathlib.Core.Logic.{◌↔◌}
use mathlib.Core.Bool.{Bool}
use Prim.Native.Nat.{ℕ, zero, suc, ◌+◌, ◌≤◌, ◌<◌}
use native.Mathlib.Omega.{arith}
use lib.IntN.{pos, sub_ℕ, ◌-ℤ◌}
use lib.Signed.{◌≤ℤ◌, ≤ℤ_refl}
use Rattle.exchange.specs.Bounds.{Terms, unclipped_upper_of, unclipped_lower_of, upper_of, lower_of, least_price, most_price, borne, SupplierGains, BuyerGains}
use Rattle.exchange.specs.Deal.{deal_of, WithinBounds, StartSafe, Safe}
use Rattle.exchange.proofs.Int.{pos_is, pos_sub, sub_add, sub_sub, ≤-sub, not_less, ≤_trans, ≤-min, max_≤}
use Rattle.exchange.proofs.Bridge.{coins_low, safe_start↔}

-- ---- a bound as a difference of two sums

pub upper_is : (P vs_l vs cs : ℕ) → unclipped_upper_of P vs_l vs cs ≡ sub_ℕ (P + vs + cs) vs_l
unfolding unclipped_upper_of
upper_is P vs_l vs cs = rw (pos_sub P vs_l, sub_add P vs_l vs, sub_add (P + vs) vs_l cs)

pub lower_is : (P vd_l vd cd : ℕ) → unclipped_lower_of P vd_l vd cd ≡ sub_ℕ (P + vd) (vd_l + cd)
unfolding unclipped_lower_of
lower_is P vd_l vd cd = rw (pos_sub P vd_l, sub_add P vd_l vd, sub_sub (P + vd) vd_l cd)

unclipped_high↔ : (P vs_l vs cs p : ℕ) → (pos p ≤ℤ unclipped_upper_of P vs_l vs cs) ↔ (p + vs_l ≤ P + vs + cs)
unclipped_high↔ P vs_l vs cs p = rw (pos_is p, upper_is P vs_l vs cs) (Iff.trans (≤-sub p 0 (P + vs + cs) vs_l) (omega arith))

unclipped_low↔ : (P vd_l vd cd p : ℕ) → (unclipped_lower_of P vd_l vd cd ≤ℤ pos p) ↔ (P + vd ≤ p + (vd_l + cd))
unclipped_low↔ P vd_l vd cd p = rw (pos_is p, lower_is P vd_l vd cd) (Iff.trans (≤-sub (P + vd) (vd_l + cd) p 0) (omega arith))

-- a lower bound is at most an upper one
pub gap↔ : (P vd_l vd cd vs_l vs cs : ℕ) → (unclipped_lower_of P vd_l vd cd ≤ℤ unclipped_upper_of P vs_l vs cs) ↔ (vd + vs_l ≤ vs + cs + (vd_l + cd))
gap↔ P vd_l vd cd vs_l vs cs =
    rw (lower_is P vd_l vd cd, upper_is P vs_l vs cs) (Iff.trans (≤-sub (P + vd) (vd_l + cd) (P + vs + cs) vs_l) (omega arith))

-- ---- clipped

-- a sum of at most the price is at most the clipped upper bound exactly if it is at most the unclipped one
pub high_same : (P vs_l vs cs p : ℕ) → p ≤ P → (pos p ≤ℤ upper_of P vs_l vs cs) ↔ (pos p ≤ℤ unclipped_upper_of P vs_l vs cs)
unfolding upper_of
high_same P vs_l vs cs p w = (λ h. ((≤-min _ _ _).0 h).0, λ h. (≤-min _ _ _).1 (h, (coins_low (pos p) P).1 w))

-- every sum is at least the clipped lower bound exactly if it is at least the unclipped one
pub low_same : (P vd_l vd cd p : ℕ) → (lower_of P vd_l vd cd ≤ℤ pos p) ↔ (unclipped_lower_of P vd_l vd cd ≤ℤ pos p)
unfolding lower_of
low_same P vd_l vd cd p = (λ h. ((max_≤ _ (pos 0) _).0 h).0, λ h. (max_≤ _ (pos 0) _).1 (h, (coins_low (pos 0) p).1 (omega arith)))

pub high↔ : (P vs_l vs cs p : ℕ) → p ≤ P → (pos p ≤ℤ upper_of P vs_l vs cs) ↔ (p + vs_l ≤ P + vs + cs)
high↔ P vs_l vs cs p w = Iff.trans (high_same P vs_l vs cs p w) (unclipped_high↔ P vs_l vs cs p)

pub low↔ : (P vd_l vd cd p : ℕ) → (lower_of P vd_l vd cd ≤ℤ pos p) ↔ (P + vd ≤ p + (vd_l + cd))
low↔ P vd_l vd cd p = Iff.trans (low_same P vd_l vd cd p) (unclipped_low↔ P vd_l vd cd p)

-- ---- a bound does not fall where the cost, or the value, does not

unclipped_upper_rises : (P vs_l cs : ℕ) {x y : ℕ} → x ≤ y → unclipped_upper_of P vs_l x cs ≤ℤ unclipped_upper_of P vs_l y cs
unclipped_upper_rises P vs_l cs {x} {y} h =
    rw (upper_is P vs_l x cs, upper_is P vs_l y cs) ((≤-sub (P + x + cs) vs_l (P + y + cs) vs_l).1 (omega arith))

unclipped_lower_rises : (P vd_l cd : ℕ) {x y : ℕ} → x ≤ y → unclipped_lower_of P vd_l x cd ≤ℤ unclipped_lower_of P vd_l y cd
unclipped_lower_rises P vd_l cd {x} {y} h =
    rw (lower_is P vd_l x cd, lower_is P vd_l y cd) ((≤-sub (P + x) (vd_l + cd) (P + y) (vd_l + cd)).1 (omega arith))

pub upper_rises : (P vs_l cs : ℕ) {x y : ℕ} → x ≤ y → upper_of P vs_l x cs ≤ℤ upper_of P vs_l y cs
unfolding upper_of
upper_rises P vs_l cs h =
    let both = (≤-min _ _ _).0 (≤ℤ_refl _) in
    (≤-min _ _ _).1 (≤_trans both.0 (unclipped_upper_rises P vs_l cs h), both.1)

pub lower_rises : (P vd_l cd : ℕ) {x y : ℕ} → x ≤ y → lower_of P vd_l x cd ≤ℤ lower_of P vd_l y cd
unfolding lower_of
lower_rises P vd_l cd h =
    let both = (max_≤ _ (pos 0) _).0 (≤ℤ_refl _) in
    (max_≤ _ (pos 0) _).1 (≤_trans (unclipped_lower_rises P vd_l cd h) both.0, both.1)

-- ---- safe states

-- "P lies from vs(L) − vs(0) .."
pub least↔ : (P vs_l vs0 : ℕ) → ((pos vs_l -ℤ pos vs0) ≤ℤ pos P) ↔ (vs_l ≤ P + vs0)
least↔ P vs_l vs0 = rw (pos_sub vs_l vs0, pos_is P) (Iff.trans (≤-sub vs_l vs0 P 0) (omega arith))

-- ".. to vd(L) − vd(0)"
pub most↔ : (P vd_l vd0 : ℕ) → (pos P ≤ℤ (pos vd_l -ℤ pos vd0)) ↔ (P + vd0 ≤ vd_l)
most↔ P vd_l vd0 = rw (pos_sub vd_l vd0, pos_is P) (Iff.trans (≤-sub P 0 vd_l vd0) (omega arith))

-- a state that a firm leaves at the costs cs and cd, with no subtraction
pub record Sums (t : Terms) (x p cs cd : ℕ) : Type 0 where
  pub low : t.price + t.value x ≤ p + (t.value t.last + cd)
  pub high : p + t.cost t.last ≤ t.price + t.cost x + cs
  pub within : p ≤ t.price

module _ (t : Terms) (holds : ℕ → ℕ → Bool) where
  within↔ : (x p : ℕ) → WithinBounds (deal_of t holds) x p ↔ Sums t x p t.supplier t.buyer
  within↔ x p =
      let low = low↔ t.price (t.value t.last) (t.value x) t.buyer p in
      let high = high↔ t.price (t.cost t.last) (t.cost x) t.supplier p in (
        λ s. record { low = low.0 s.low; high = (high s.within).0 s.high; within = s.within },
        λ s. record { low = low.1 s.low; high = (high s.within).1 s.high; within = s.within },
      )

  pub start↔ : StartSafe (deal_of t holds) ↔ Sums t 0 0 0 0
  unfolding least_price most_price
  start↔ =
      let least = least↔ t.price (t.cost t.last) (t.cost 0) in
      let most = most↔ t.price (t.value t.last) (t.value 0) in (
        λ s. record { low = omega (arith, most.0 s.most); high = omega (arith, least.0 s.least); within = omega arith },
        λ s. record { least = least.1 (omega (arith, s.high)); most = most.1 (omega (arith, s.low)) },
      )

  -- no leaving cost is below 0, so a safe start lies within the bounds of place 0
  pub start_within : StartSafe (deal_of t holds) → WithinBounds (deal_of t holds) 0 0
  start_within s =
      let n = start↔.0 s in (within↔ 0 0).1 (record { low = omega (arith, n.low); high = omega (arith, n.high); within = n.within })

  moved↔ : (x p : ℕ) → 0 < x + p → Safe (deal_of t holds) x p ↔ WithinBounds (deal_of t holds) x p
  moved↔ x p h = (λ s. s.moved h, λ w. record { unmoved = λ e. absurd (omega arith); moved = λ _. w })

  -- the one law that turns the paper's integers into sums: of (0, 0) with no leaving cost, of every other state with all of it
  pub safe↔ : (x p : ℕ) → Safe (deal_of t holds) x p ↔ Sums t x p (borne t.supplier x p) (borne t.buyer x p)
  unfolding borne
  safe↔ zero zero = Iff.trans safe_start↔ start↔
  safe↔ zero (suc p) = Iff.trans (moved↔ 0 (suc p) (omega arith)) (within↔ 0 (suc p))
  safe↔ (suc x) p = Iff.trans (moved↔ (suc x) p (omega arith)) (within↔ (suc x) p)

  pub end_safe : Safe (deal_of t holds) t.last t.price
  end_safe = (safe↔ t.last t.price).1 (record { low = omega arith; high = omega arith; within = omega arith })

module _ (t : Terms) (x p : ℕ) where
  supplier_stays : (SupplierGains t x p → ⊥) ↔ (p + t.cost t.last ≤ t.price + t.cost x + borne t.supplier x p)
  unfolding SupplierGains
  supplier_stays =
      let c = borne t.supplier x p in
      Iff.trans not_less
      (rw (pos_sub p (t.cost x), sub_sub p (t.cost x) c, pos_sub t.price (t.cost t.last))
      (Iff.trans (≤-sub p (t.cost x + c) t.price (t.cost t.last)) (omega arith)))

  buyer_stays : (BuyerGains t x p → ⊥) ↔ (t.price + t.value x ≤ p + (t.value t.last + borne t.buyer x p))
  unfolding BuyerGains
  buyer_stays =
      let c = borne t.buyer x p in
      Iff.trans not_less
      (rw (pos_sub (t.value x) p, sub_sub (t.value x) p c, pos_sub (t.value t.last) t.price)
      (Iff.trans (≤-sub (t.value x) (p + c) (t.value t.last) t.price) (omega arith)))

-- "Where 0 ≤ paid ≤ P, a state is safe exactly if neither gains"
pub safe_neither : (t : Terms) (holds : ℕ → ℕ → Bool) (x p : ℕ) → p ≤ t.price
    → Safe (deal_of t holds) x p ↔ ((SupplierGains t x p → ⊥) × (BuyerGains t x p → ⊥))
safe_neither t holds x p w =
    let supplier = supplier_stays t x p in
    let buyer = buyer_stays t x p in (
      λ s. let n = (safe↔ t holds x p).0 s in (supplier.1 n.high, buyer.1 n.low),
      λ f. (safe↔ t holds x p).1 (record { low = buyer.0 f.1; high = supplier.0 f.0; within = w }),
    )
