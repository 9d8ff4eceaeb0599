-- A brought plan along segments, followed step by step. Assumes nothing.
use Rattle.std.proofs.Common.{Ok}
use mathlib.Core.Path.{◌≡◌, refl, sym, ap, ◌∙◌, subst}
use mathlib.Core.Logic.{◌↔◌}
use mathlib.Core.Bool.{Bool, true, false, not, ◌&&◌, and-eq-true_iff}
use mathlib.Core.List.{List}
use Prim.Native.Nat.{ℕ, ◌+◌, ◌≤◌, ◌<◌}
use native.Mathlib.Omega.{arith}
use native.Mathlib.Numerals.{add-one}
use borrow.Author.Tests.{eqb-true, eq-eqb, leb-true, le-leb, not-true, not-false}
use lib.Dec.{T, eqb, le→leb}
use lib.IntN.{ℤ, pos}
use lib.Signed.{◌≤ℤ◌}
use lib.Ieee.Bits.{is_true}
use lib.ListN.{length, get_or}
use Rattle.area.specs.Entries.{entries}
use Rattle.exchange.specs.Bounds.{upper_of, lower_of}
use Rattle.exchange.specs.Deal.{State, Safe, Step, Steps, Plan, start, ends}
use Rattle.exchange.specs.PlanIn.{plan_in}
use Rattle.exchange.specs.Test.{bounds_at, start_test, step_test}
use Rattle.exchange.specs.declared.Bounds.{Bounds}
use Rattle.exchange.proofs.Int.{le_z_true, test_same, ≤_trans}
use Rattle.exchange.proofs.BoundLaws.{upper_rises, lower_rises}
use Rattle.exchange.proofs.Bridge.{plan_start}
use Rattle.exchange.proofs.GivenOrder.Run.{state_eq}
use Rattle.exchange.proofs.PlanInLaws.{entry_in, plan_none, plan_step, plan_next, plan_end}
use Rattle.exchange.proofs.TestLaws.{within_test↔, step↔}
use Rattle.line.specs.Segments.{spread, fits, deal_along}
use Rattle.line.specs.CheckPromise.{holds_count, Checks}
use Rattle.line.specs.Code.{sum_to, Fit, Known, At, There, origin}
use Rattle.line.specs.CheckCode.{Ahead, Brought, Judges, cursor_bounds, passes}
use Rattle.line.specs.declared.Cursor.{Cursor}
use Rattle.exchange.specs.declared.Sides.{Sides}
use Rattle.line.specs.declared.Totals.{Totals}
use Rattle.line.proofs.SegmentLaws.{sum_up, at_origin, fits↔, not_so}
use Rattle.line.proofs.DealLaws.{rising, not_started, started}
use Rattle.line.proofs.PlaceLaws.{cursor_bounds_lem}

-- ---- the test of a step, where both bounds rise

-- what decides where both bounds rise: the lower bound of the later place and the upper bound of the earlier
record Tests (lower upper : ℤ) (p q P : ℕ) : Type 0 where
  pays : p ≤ q
  within : q ≤ P
  low : lower ≤ℤ pos p
  high : pos q ≤ℤ upper

passes↔ : (s : Sides) (t : Totals) (cost value p q : ℕ)
    → (passes s t cost value p q ≡ true)
    ↔ Tests (lower_of s.price t.value value s.buyer) (upper_of s.price t.cost cost s.supplier) p q s.price
unfolding passes
passes↔ s t cost value p q = (
  λ e.
      let f = (and-eq-true_iff _ _).0 e in
      let g = (and-eq-true_iff _ _).0 f.0 in
      let h = (and-eq-true_iff _ _).0 g.0 in
      record { pays = leb-true _ _ h.0; within = leb-true _ _ h.1; low = (le_z_true _ _).0 g.1; high = (le_z_true _ _).0 f.1 },
  λ h. rw (le-leb _ _ h.pays, le-leb _ _ h.within, (le_z_true _ _).1 h.low) ((le_z_true _ _).1 h.high),
)

module _ (a b : Bounds) (p q P : ℕ) where
  step_tests : step_test true a b p q P ≡ true → Tests b.lower a.upper p q P
  unfolding step_test
  step_tests e =
      let f = (and-eq-true_iff _ _).0 e in
      let g = (and-eq-true_iff _ _).0 f.0 in
      let h = (and-eq-true_iff _ _).0 g.0 in
      let j = (and-eq-true_iff _ _).0 h.0 in
      let paid = (within_test↔ q a P).0 g.1 in
      record { pays = leb-true _ _ j.0; within = paid.2; low = ((within_test↔ p b P).0 h.1).0; high = paid.1 }

  tests_step : a.lower ≤ℤ b.lower → a.upper ≤ℤ b.upper → Tests b.lower a.upper p q P → step_test true a b p q P ≡ true
  unfolding step_test
  tests_step lows highs t =
      let more : pos p ≤ℤ pos q = record { le = le→leb p q t.pays } in
      let low = ≤_trans lows t.low in
      let high = ≤_trans more t.high in
      let within : p ≤ P = omega (arith, t.pays, t.within) in
      rw (le-leb p q t.pays, (within_test↔ p a P).1 (low, high, within), (within_test↔ p b P).1 (t.low, ≤_trans high highs, within), (within_test↔ q a P).1 (≤_trans low more, t.high, t.within))
      ((within_test↔ q b P).1 (≤_trans t.low more, ≤_trans t.high highs, t.within))

-- where no bound falls on the way from a to b, the four comparisons are the test of the step
module _ (s : Sides) (t : Totals) (cost value p q : ℕ) (a b : Bounds) (low : b.lower ≡ lower_of s.price t.value value s.buyer)
    (high : a.upper ≡ upper_of s.price t.cost cost s.supplier) where
  tests : (passes s t cost value p q ≡ true) ↔ Tests b.lower a.upper p q s.price
  tests = rw (low, high) (passes↔ s t cost value p q)

  pub passes_step : a.lower ≤ℤ b.lower → a.upper ≤ℤ b.upper → passes s t cost value p q ≡ step_test true a b p q s.price
  passes_step lows highs =
      test_same _ _ (λ e. tests_step a b p q s.price lows highs (tests.0 e), λ e. tests.1 (step_tests a b p q s.price e))

-- ---- a brought plan, step by step

module _ (s : Sides) (us cs vs : List ℕ) (n : ℕ) (places sums : List ℕ) where
  -- the start is safe, the first i entries are steps, and the cursor and the payment stand after them
  pub record Passed (c : Cursor) (paid i : ℕ) : Type 0 where
    pub start_safe : Safe (deal_along s us cs vs) 0 0
    pub within : i ≤ n
    pub at : At us cs vs c
    pub steps : Steps (deal_along s us cs vs) start (plan_in i places sums)
    pub state_is : ends start (plan_in i places sums) ≡ record { place = c.place; paid = paid }

  none : (Plan (deal_along s us cs vs) (plan_in n places sums) → ⊥) → Judges (deal_along s us cs vs) (plan_in n places sums) false
  none f = record { yes = λ e. absurd (subst T (sym e) tt); no = λ _. f }

  module _ (t : Totals) (b : Brought us cs vs t n places sums) where
    -- no plan sets out from an unsafe start
    pub unsafe_start : (r : Bool) → r ≡ start_test s.price t.cost 0 t.value 0 → not r ≡ true
        → Judges (deal_along s us cs vs) (plan_in n places sums) false
    unsafe_start r e h = none (λ p. not_started s us cs vs t b.known r e h (plan_start _ (rising s us cs vs) _ p))

    pub passed_start : (r : Bool) → r ≡ start_test s.price t.cost 0 t.value 0 → not r ≡ false → (c : Cursor) → c ≡ origin → Passed c 0 0
    passed_start r e h c o =
        rw o
        (record {
          start_safe = started s us cs vs t b.known r e h;
          within = omega arith;
          at = at_origin us cs vs b.known.fit;
          steps = rw (plan_none places sums) tt;
          state_is = rw (plan_none places sums);
        })

    module _ {c : Cursor} {paid i : ℕ} (g : Passed c paid i) where
      -- the test of the end
      pub passed_all : n ≤ i → {r : Bool} → r ≡ (eqb c.place t.units && eqb paid s.price)
          → Judges (deal_along s us cs vs) (plan_in n places sums) r
      passed_all h {r} e =
          let same : i ≡ n = omega (arith, g.within) in
          let there = subst (λ (j : ℕ). ends start (plan_in j places sums) ≡ record { place = c.place; paid = paid }) same g.state_is in
          record {
            yes =
                λ q.
                let f = (and-eq-true_iff _ _).0 (sym e ∙ q) in
                record {
                  steps = subst (λ (j : ℕ). Steps (deal_along s us cs vs) start (plan_in j places sums)) same g.steps;
                  arrives = there ∙ state_eq (eqb-true _ _ f.0 ∙ b.known.units_are) (eqb-true _ _ f.1);
                };
            no =
                λ q p.
                let f = sym there ∙ p.arrives in
                let yes : r ≡ true =
                e ∙ rw (eq-eqb _ _ (ap (λ (u : State). u.place) f ∙ sym b.known.units_are), eq-eqb _ _ (ap (λ (u : State). u.paid) f)) in
                subst T (sym yes ∙ q) tt;
          }

      module _ (h : i < n) {place sum : ℕ} (ep : place ≡ get_or (entries 2 places) i 0) (es : sum ≡ get_or (entries 4 sums) i 0) where
        entry : entry_in places sums i ≡ record { place = place; paid = sum }
        entry = state_eq (sym ep) (sym es)

        -- a plan has a step here
        step_here : Plan (deal_along s us cs vs) (plan_in n places sums)
            → Step (deal_along s us cs vs) (record { place = c.place; paid = paid }) (record { place = place; paid = sum })
        step_here p =
            rw (← g.state_is, ← entry) (plan_step places sums n b.places_hold b.sums_hold (Step (deal_along s us cs vs)) start p.steps i h)

        pub falls : place < c.place → Judges (deal_along s us cs vs) (plan_in n places sums) false
        falls l = none (λ p. let q : c.place ≤ place = leb-true _ _ (is_true _ (step_here p).delivers) in absurd (omega arith))

        pub above : t.units < place → Judges (deal_along s us cs vs) (plan_in n places sums) false
        above l = none (λ p. let q : place ≤ length (spread us cs) = (step_here p).in_deal in absurd (omega (arith, b.known.units_are)))

        module _ (l : c.place ≤ place) (m : place ≤ t.units) where
          pub ahead : Ahead us cs vs c place
          ahead = record { fit = b.known.fit; at = g.at; from = l; within = omega (arith, b.known.units_are) }

          -- both sums rise on the way
          rises : {to : Cursor} → There us cs vs to place → (c.cost ≤ to.cost) × (c.value ≤ to.value)
          rises {to} a =
              let h = a.place_is in
              let up : (xs : List ℕ) → sum_to xs c.place ≤ sum_to xs to.place = λ xs. sum_up xs c.place to.place (omega arith) in
              (omega (arith, up (spread us cs), g.at.cost_is, a.at.cost_is), omega (arith, up (spread us vs), g.at.value_is, a.at.value_is))

          module _ {to : Cursor} (a : There us cs vs to place) {r : Bool} (e : r ≡ passes s t c.cost to.value paid sum) where
            -- the test of the step
            tested : (r ≡ true) ↔ Step (deal_along s us cs vs) (record { place = c.place; paid = paid }) (record { place = place; paid = sum })
            tested =
                let d = deal_along s us cs vs in
                let q = step↔ d (rising s us cs vs) g.start_safe (record { place = c.place; paid = paid }) (record { place = place; paid = sum }) (omega (arith, b.known.units_are)) in
                let f : r ≡ step_test (d.holds c.place place) (bounds_at d c.place) (bounds_at d place) paid sum s.price =
                e
                ∙ passes_step s t c.cost to.value paid sum (cursor_bounds s t c) (cursor_bounds s t to) refl refl
                (lower_rises s.price t.value s.buyer (rises a).1) (upper_rises s.price t.cost s.supplier (rises a).0)
                ∙ rw (cursor_bounds_lem s us cs vs t b.known c g.at, cursor_bounds_lem s us cs vs t b.known to a.at, a.place_is, le-leb _ _ l) in
                (λ y. q.0 (sym f ∙ y), λ y. f ∙ q.1 y)

            pub refused : not r ≡ true → Judges (deal_along s us cs vs) (plan_in n places sums) false
            refused y = none (λ p. subst T (sym (tested.1 (step_here p)) ∙ not-true r y) tt)

            pub passed_next : not r ≡ false → Passed to sum (i + 1)
            passed_next y =
                let d = deal_along s us cs vs in
                let hp : i < length (entries 2 places) = omega (arith, b.places_hold) in
                let hs : i < length (entries 4 sums) = omega (arith, b.sums_hold) in
                rw (add-one i)
                (record {
                  start_safe = g.start_safe;
                  within = h;
                  at = a.at;
                  steps = plan_next places sums i hp hs (Step d) start g.steps (rw (g.state_is, entry) (tested.0 (not-false r y)));
                  state_is = plan_end places sums i hp hs start ∙ entry ∙ state_eq (sym a.place_is) refl;
                })

-- ---- which plans can be read

module _ (us cs vs : List ℕ) (n : ℕ) (places sums : List ℕ) where
  holds↔ : (holds_count us cs vs n places sums ≡ true) ↔ (Fit us cs vs × (n ≤ length (entries 2 places)) × (n ≤ length (entries 4 sums)))
  unfolding holds_count
  holds↔ = (
    λ e.
        let f = (and-eq-true_iff _ _).0 e in
        let g = (and-eq-true_iff (fits us cs vs) _).0 f.0 in
        ((fits↔ us cs vs).0 g.0, leb-true _ _ g.1, leb-true _ _ f.1),
    λ h. rw ((fits↔ us cs vs).1 h.0, le-leb _ _ h.1) (le-leb _ _ h.2),
  )

  pub unfit_segments : fits us cs vs ≡ false → holds_count us cs vs n places sums ≡ false
  unfit_segments e = not_so _ (λ h. subst T (sym ((fits↔ us cs vs).1 (holds↔.0 h).0) ∙ e) tt)

  pub short_places : {m : ℕ} → m ≡ length (entries 2 places) → m < n → holds_count us cs vs n places sums ≡ false
  short_places {m} e h = not_so _ (λ q. let r = (holds↔.0 q).1 in omega arith)

  pub short_sums : {m : ℕ} → m ≡ length (entries 4 sums) → m < n → holds_count us cs vs n places sums ≡ false
  short_sums {m} e h = not_so _ (λ q. let r = (holds↔.0 q).2 in omega arith)

  pub brought : (t : Totals) → Known us cs vs t → n ≤ length (entries 2 places) → n ≤ length (entries 4 sums) → Brought us cs vs t n places sums
  brought t k h f = record { known = k; places_hold = h; sums_hold = f }

  -- the answer that goes by the test of the steps
  pub checked : (s : Sides) (t : Totals) → Known us cs vs t → n ≤ length (entries 2 places) → n ≤ length (entries 4 sums) → (r : Bool)
      → Judges (deal_along s us cs vs) (plan_in n places sums) r → Checks s us cs vs n places sums (Ok r)
  checked s t k hp hs true j = (holds↔.1 (k.fit, hp, hs), j.yes refl)
  checked s t k hp hs false j = (holds↔.1 (k.fit, hp, hs), j.no refl)
