-- The bridge: the plans of a deal are those of its working form, once the start is safe. One proof for every form of contract.
-- Assumes nothing.
use mathlib.Core.Path.{◌≡◌, refl, sym, subst}
use mathlib.Core.Logic.{◌↔◌, dite}
use mathlib.Core.List.{List, [], ◌∷◌}
use Prim.Native.Nat.{ℕ, zero, suc, ◌≤◌}
use native.Mathlib.Decide.{ℕ_discrete}
use native.Mathlib.Omega.{arith}
use lib.IntN.{ℤ, pos, negsuc}
use lib.Signed.{le_z, ◌≤ℤ◌}
use lib.Dec.{leb, leb→le, le→leb, leb-zero}
use Rattle.exchange.specs.Deal.{Deal, State, WithinBounds, StartSafe, Safe, Step, Steps, Plan}
use Rattle.exchange.specs.Rule.{coins}
use Rattle.exchange.specs.Work.{Rising, work_of, Lawful, WorkStep, WorkSteps, WorkPlan}
use Rattle.exchange.proofs.Int.{≤_trans}

-- ---- bounds as coins

pub coins_low : (z : ℤ) (p : ℕ) → (z ≤ℤ pos p) ↔ (coins z ≤ p)
coins_low (pos n) p = omega (arith, leb→le, le→leb)
coins_low (negsuc n) p = omega arith

-- of a bound that some sum is at most
pub coins_high : (z : ℤ) (p : ℕ) → pos p ≤ℤ z → (q : ℕ) → (pos q ≤ℤ z) ↔ (q ≤ coins z)
coins_high (pos n) p h q = omega (arith, leb→le, le→leb)
coins_high (negsuc n) p h q = absurd h.le

pub coins_rise : (y z : ℤ) → y ≤ℤ z → coins y ≤ coins z
coins_rise y z h = (coins_low y (coins z)).0 (≤_trans h ((coins_low z (coins z)).1 (omega arith)))

-- the test of the rule for a given order, in the working form
pub reach_floor : (d : Deal) (x p : ℕ) → le_z (d.lower x) (pos p) ≡ leb ((work_of d).floor x) p
reach_floor d x p = go (d.lower x)
  where
    go : (z : ℤ) → le_z z (pos p) ≡ leb (coins z) p
    go (pos n) = refl
    go (negsuc n) = sym (leb-zero p)

-- ---- safe states

pub safe_start↔ : {d : Deal} → Safe d 0 0 ↔ StartSafe d
safe_start↔ = (λ s. s.unmoved refl, λ h. record { unmoved = λ _. h; moved = λ l. absurd (omega arith) })

-- no more than the price is paid in a safe state
pub within_price : {d : Deal} (x p : ℕ) → Safe d x p → p ≤ d.price
within_price x p s = dite (ℕ_discrete p 0) (λ (e : p ≡ 0). omega arith) (λ (n : p ≡ 0 → ⊥). (s.moved (omega arith)).within)

-- where the start is safe, every state within the bounds is
pub within_safe : {d : Deal} {x p : ℕ} → StartSafe d → WithinBounds d x p → Safe d x p
within_safe h w = record { unmoved = λ _. h; moved = λ _. w }

module _ (d : Deal) (r : Rising d) where
  -- and every safe state is within the bounds
  pub safe_within : (x p : ℕ) → Safe d x p → WithinBounds d x p
  safe_within zero zero s = r.start_within (s.unmoved refl)
  safe_within zero (suc p) s = s.moved (omega arith)
  safe_within (suc x) p s = s.moved (omega arith)

  -- so nothing need be paid at a safe start
  pub start_covered : Safe d 0 0 → (work_of d).floor 0 ≤ 0
  start_covered s = (coins_low _ 0).0 (safe_within 0 0 s).low

  -- ---- from the deal to its working form

  to_work : (s t : State) → Step d s t → WorkStep (work_of d) s t
  to_work s t h =
      let paid = safe_within _ _ h.safe_paid in
      let q : t.paid ≤ coins (d.upper s.place) = (coins_high _ t.paid paid.high t.paid).0 paid.high in
      record {
        in_deal = h.in_deal;
        delivers = h.delivers;
        pays = h.pays;
        covered = (coins_low (d.lower t.place) s.paid).0 (safe_within _ _ h.safe_delivered).low;
        afforded = omega (arith, paid.within);
      }

  all_to_work : (s : State) (xs : List State) → Steps d s xs → WorkSteps (work_of d) s xs
  all_to_work s [] h = tt
  all_to_work s (t ∷ ts) h = (to_work s t h.0, all_to_work t ts h.1)

  -- ---- and back, where the start is safe

  module _ (h : StartSafe d) where
    of_work : (s t : State) → s.place ≤ d.last → WithinBounds d s.place s.paid → WorkStep (work_of d) s t → Step d s t
    of_work s t i here w =
        let rises : d.upper s.place ≤ℤ d.upper t.place = r.upper_rises s.place t.place i w.in_deal w.delivers in
        let more : pos s.paid ≤ℤ pos t.paid = record { le = le→leb s.paid t.paid w.pays } in
        let low : d.lower t.place ≤ℤ pos s.paid = (coins_low _ s.paid).1 w.covered in
        let high : pos t.paid ≤ℤ d.upper s.place = (coins_high _ s.paid here.high t.paid).1 (omega (arith, w.afforded)) in
        let within : t.paid ≤ d.price = omega (arith, w.afforded) in
        record {
          in_deal = w.in_deal;
          delivers = w.delivers;
          pays = w.pays;
          safe = within_safe h here;
          safe_delivered = within_safe h (record { low = low; high = ≤_trans here.high rises; within = here.within });
          safe_paid = within_safe h (record { low = ≤_trans here.low more; high = high; within = within });
          safe_after = within_safe h (record { low = ≤_trans low more; high = ≤_trans high rises; within = within });
        }

    all_of_work : (s : State) (xs : List State) → s.place ≤ d.last → WithinBounds d s.place s.paid → WorkSteps (work_of d) s xs
        → Steps d s xs
    all_of_work s [] i here w = tt
    all_of_work s (t ∷ ts) i here w =
        let step : Step d s t = of_work s t i here w.0 in
        (step, all_of_work t ts step.in_deal (safe_within _ _ step.safe_after) w.1)

  -- a plan sets out from a safe state; one of no steps, because the end is safe
  pub plan_start : (xs : List State) → Plan d xs → Safe d 0 0
  plan_start [] h = subst (λ (s : State). Safe d s.place s.paid) (sym h.arrives) r.end_safe
  plan_start (t ∷ ts) h = h.steps.0.safe

  pub bridge : (xs : List State) → Plan d xs ↔ (Safe d 0 0 × WorkPlan (work_of d) xs)
  bridge xs = (
    λ h. (plan_start xs h, record { steps = all_to_work _ xs h.steps; arrives = h.arrives }),
    λ h.
        record {
          steps = all_of_work (h.0.unmoved refl) _ xs (omega arith) (safe_within 0 0 h.0) h.1.steps;
          arrives = h.1.arrives;
        },
  )

  pub lawful : Lawful (work_of d)
  lawful =
      let there = safe_within _ _ r.end_safe in
      record {
        holds_self = r.holds_self;
        holds_start = r.holds_start;
        cap_rises = λ a b i j h. omega (arith, coins_rise _ _ (r.upper_rises a b i j h));
        floor_rises = λ a b i j h. coins_rise _ _ (r.lower_rises a b i j h);
        cap_price = λ a. omega arith;
        cap_last = omega (arith, (coins_high _ d.price there.high d.price).0 there.high);
        floor_last = (coins_low _ d.price).0 there.low;
      }
