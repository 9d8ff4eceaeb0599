-- The tests hold exactly of a safe start and, where it is safe, of steps; and a test of which deals along one order have a plan. Assumes nothing.
use mathlib.Core.Path.{◌≡◌, refl, sym, subst}
use mathlib.Core.Logic.Iff
use mathlib.Core.Logic.{◌↔◌, dite}
use mathlib.Core.Bool.{Bool, true, false, ◌&&◌, and-eq-true_iff, false≢true}
use Prim.Native.Nat.{ℕ, zero, suc, ◌+◌, ◌≤◌, ◌<◌}
use native.Mathlib.Decide.{ℕ_discrete}
use native.Mathlib.Omega.{arith}
use borrow.Author.Tests.{leb-true, le-leb}
use lib.Ieee.Bits.{is_true}
use lib.Dec.{T, leb}
use lib.IntN.{pos, ◌-ℤ◌}
use lib.Signed.{le_z, ◌≤ℤ◌}
use Rattle.exchange.specs.Bounds.{Terms, least_price, most_price}
use Rattle.exchange.specs.Deal.{Deal, deal_of, State, Safe, Step}
use Rattle.exchange.specs.Possible.{Possible}
use Rattle.exchange.specs.Test.{bounds_at, start_test, within_test, step_test}
use Rattle.exchange.specs.Work.{Rising}
use Rattle.exchange.specs.declared.Bounds.{Bounds}
use Rattle.exchange.proofs.Int.{le_z_true, test_same}
use Rattle.exchange.proofs.BoundLaws.{least↔, most↔}
use Rattle.exchange.proofs.Bridge.{safe_start↔, within_safe, safe_within}

-- whether the start is safe
abbrev pub start_safe : Deal → Bool
start_safe d = le_z d.least_price (pos d.price) && le_z (pos d.price) d.most_price

pub start_safe↔ : (d : Deal) → (start_safe d ≡ true) ↔ Safe d 0 0
start_safe↔ d =
    Iff.trans (
      λ e.
          let both = (and-eq-true_iff (le_z d.least_price _) _).0 e in
          record { least = (le_z_true _ _).0 both.0; most = (le_z_true _ _).0 both.1 },
      λ s. rw ((le_z_true d.least_price _).1 s.least) ((le_z_true _ _).1 s.most),
    ) (Iff.symm safe_start↔)

-- by the amounts of the first and the last place
pub start_test↔ : (t : Terms) (holds : ℕ → ℕ → Bool)
    → (start_test t.price (t.cost t.last) (t.cost 0) (t.value t.last) (t.value 0) ≡ true) ↔ Safe (deal_of t holds) 0 0
unfolding start_test least_price most_price
start_test↔ t holds = start_safe↔ (deal_of t holds)

-- by sums: below the least price, and from it on
module _ (P vs_l vs0 vd_l vd0 : ℕ) where
  pub start_below : P + vs0 < vs_l → false ≡ start_test P vs_l vs0 vd_l vd0
  unfolding start_test
  start_below h =
      sym (rw (test_same (le_z (pos vs_l -ℤ pos vs0) (pos P)) false (λ e. absurd (omega (arith, (least↔ P vs_l vs0).0 ((le_z_true _ _).0 e))), λ e. absurd (false≢true e))))

  pub start_from : vs_l ≤ P + vs0 → leb (P + vd0) vd_l ≡ start_test P vs_l vs0 vd_l vd0
  unfolding start_test
  start_from h =
      rw ((le_z_true _ _).1 ((least↔ P vs_l vs0).1 h))
      (test_same _ _ (λ e. (le_z_true _ _).1 ((most↔ P vd_l vd0).1 (leb-true _ _ e)), λ e. le-leb _ _ ((most↔ P vd_l vd0).0 ((le_z_true _ _).0 e))))

-- the test of the bounds
pub within_test↔ : (p : ℕ) (at : Bounds) (P : ℕ) → (within_test p at P ≡ true) ↔ ((at.lower ≤ℤ pos p) × (pos p ≤ℤ at.upper) × (p ≤ P))
unfolding within_test
within_test↔ p at P = (
  λ e.
      let both = (and-eq-true_iff _ _).0 e in
      let bounds = (and-eq-true_iff _ _).0 both.0 in
      ((le_z_true _ _).0 bounds.0, (le_z_true _ _).0 bounds.1, leb-true _ _ both.1),
  λ h. rw ((le_z_true _ _).1 h.0, (le_z_true _ _).1 h.1, le-leb _ _ h.2),
)

module _ (d : Deal) (r : Rising d) (start_safe : Safe d 0 0) where
  -- the test of a state, where the start is safe
  test↔ : (x p : ℕ) → (within_test p (bounds_at d x) d.price ≡ true) ↔ Safe d x p
  test↔ x p =
      let t = within_test↔ p (bounds_at d x) d.price in (
        λ e. let w = t.0 e in within_safe (start_safe.unmoved refl) (record { low = w.0; high = w.1; within = w.2 }),
        λ s. let w = safe_within d r x p s in t.1 (w.low, w.high, w.within),
      )

  -- the test of a step, for a place of the deal
  pub step↔ : (s t : State) → t.place ≤ d.last
      → (step_test (d.holds s.place t.place) (bounds_at d s.place) (bounds_at d t.place) s.paid t.paid d.price ≡ true) ↔ Step d s t
  unfolding step_test
  step↔ s t i = (
    λ e.
        let f = (and-eq-true_iff _ _).0 e in
        let g = (and-eq-true_iff _ _).0 f.0 in
        let h = (and-eq-true_iff _ _).0 g.0 in
        let j = (and-eq-true_iff _ _).0 h.0 in
        let k = (and-eq-true_iff (d.holds s.place t.place) _).0 j.0 in
        record {
          in_deal = i;
          delivers = subst T (sym k.0) tt;
          pays = leb-true _ _ k.1;
          safe = (test↔ _ _).0 j.1;
          safe_delivered = (test↔ _ _).0 h.1;
          safe_paid = (test↔ _ _).0 g.1;
          safe_after = (test↔ _ _).0 f.1;
        },
    λ h.
        rw (is_true (d.holds s.place t.place) h.delivers, le-leb _ _ h.pays, (test↔ _ _).1 h.safe, (test↔ _ _).1 h.safe_delivered, (test↔ _ _).1 h.safe_paid)
        ((test↔ _ _).1 h.safe_after),
  )

-- ---- all numbers below a bound

unfoldable pub all_below : (ℕ → Bool) → ℕ → Bool
all_below t zero = true
all_below t (suc n) = t n && all_below t n

pub all↔ : (t : ℕ → Bool) (n : ℕ) → (all_below t n ≡ true) ↔ ((i : ℕ) → i < n → t i ≡ true)
unfolding all_below
all↔ t zero = (λ e i h. absurd (omega arith), λ h. refl)
all↔ t (suc n) = (
  λ e i h.
      let f = (and-eq-true_iff (t n) _).0 e in
      dite (ℕ_discrete i n) (λ q. rw q f.0) (λ (q : i ≡ n → ⊥). (all↔ t n).0 f.1 i (omega arith)),
  λ h. rw (h n (omega arith)) ((all↔ t n).1 (λ i l. h i (omega arith))),
)

-- ---- a deal along one order

-- whether the start is safe and there is no gap
unfoldable pub possible : Deal → Bool
possible d = start_safe d && all_below (λ i. le_z (d.lower (suc i)) (d.upper i)) d.last

pub possible↔ : (d : Deal) → (possible d ≡ true) ↔ Possible d
unfolding possible
possible↔ d = (
  λ e.
      let f = (and-eq-true_iff (start_safe d) _).0 e in
      record { start_safe = (start_safe↔ d).0 f.0; no_gap = λ i h. (le_z_true _ _).0 ((all↔ _ d.last).0 f.1 i h) },
  λ p. rw ((start_safe↔ d).1 p.start_safe) ((all↔ _ d.last).1 (λ i h. (le_z_true _ _).1 (p.no_gap i h))),
)
