-- The deal along segments, by the code's numbers: the tests of its bounds, where a delivery stops, and which deals are possible.
-- Assumes nothing.
use mathlib.Core.Path.{◌≡◌, refl, sym, ap, ◌∙◌, subst}
use mathlib.Core.Logic.Iff
use mathlib.Core.Logic.{◌↔◌}
use mathlib.Core.Bool.{Bool, true, false, not, ◌&&◌, and-eq-true_iff}
use mathlib.Core.List.{List}
use Prim.Native.Nat.{ℕ, zero, suc, ◌+◌, ◌*◌, ◌-◌, ◌≤◌, ◌<◌, ◌^◌}
use native.Mathlib.Nat.{le_trans, mul-le-mul_right}
use native.Mathlib.Decide.{dec_le}
use native.Mathlib.Omega.{arith}
use borrow.Author.Tests.{leb-false, not-true, not-false}
use lib.Dec.{T, leb}
use lib.IntN.{pos}
use lib.Signed.{le_z, ◌≤ℤ◌}
use lib.ListN.{length, get_or}
use Rattle.exchange.specs.Bounds.{Terms, upper_of, lower_of, unclipped_upper, unclipped_lower}
use Rattle.exchange.specs.Deal.{State, Safe}
use Rattle.exchange.specs.Forms.{ladder_terms}
use Rattle.exchange.specs.Rule.{reach, rule}
use Rattle.exchange.specs.Possible.{Possible}
use Rattle.exchange.specs.Test.{start_test}
use Rattle.exchange.specs.Work.{Rising, work_of}
use Rattle.exchange.specs.declared.Sides.{Sides}
use Rattle.exchange.proofs.Int.{le_z_true}
use Rattle.exchange.proofs.BoundLaws.{gap↔, low↔, start↔}
use Rattle.exchange.proofs.Clipped.{clipped_same, possible_same}
use Rattle.exchange.proofs.Bridge.{lawful, coins_low, reach_floor}
use Rattle.exchange.proofs.GivenOrder.Farthest.{farthest, farthest_is}
use Rattle.exchange.proofs.FormLaws.{ladder_rising}
use Rattle.exchange.proofs.GivenOrder.{plan_exists}
use Rattle.exchange.proofs.GivenOrder.Greedy.{OnLine, floor_up}
use Rattle.exchange.proofs.GivenOrder.RuleLaws.{rule_greedy}
use Rattle.exchange.proofs.TestLaws.{start_test↔}
use Rattle.line.specs.Segments.{spread, deal_along}
use Rattle.line.specs.Code.{sum_to, Known, At, Open, There, Reached, Delivered, Decides, UnitsIn, origin, meet}
use Rattle.line.specs.declared.Cursor.{Cursor}
use Rattle.line.specs.declared.Totals.{Totals}
use Rattle.line.proofs.SegmentLaws.{sum_zero, at_origin, not_so, place_on, cost_on, value_on, value_fits, cost_there, value_there}

-- two sides that rise by constants: in order at first and after i and j rises, they are so after i
between : (a b v x i j : ℕ) → a ≤ b → a + (i + j) * v ≤ b + (i + j) * x → a + i * v ≤ b + i * x
between a b v x i j p q = go (dec_le v x)
  where
    go : Dec (v ≤ x) → a + i * v ≤ b + i * x
    go (yes h) = omega (arith, mul-le-mul_right i h)
    go (no h) = omega (arith, mul-le-mul_right {m = x} {n = v} j (omega arith))

-- ---- the deal

-- where one unit may be delivered, some are
pub some_units : (limit value n r : ℕ) → UnitsIn limit value n r → value ≤ limit → 0 < n → 0 < r
some_units limit value n zero u one left = absurd (omega (arith, u.most left))
some_units limit value n (suc r) u one left = omega arith

module _ (s : Sides) (us cs vs : List ℕ) where
  pub rising : Rising (deal_along s us cs vs)
  rising = ladder_rising s (spread us cs) (spread us vs)

  pub on_line : OnLine (work_of (deal_along s us cs vs))
  on_line = record { lawful = lawful (deal_along s us cs vs) rising; counts = λ a b. refl }

  -- a scan upwards that stops at b has found where the rule delivers
  pub reach_is : (p b : ℕ) → b ≤ length (spread us cs) → (deal_along s us cs vs).lower b ≤ℤ pos p
      → (b < length (spread us cs) → le_z ((deal_along s us cs vs).lower (suc b)) (pos p) ≡ false)
      → b ≡ reach (deal_along s us cs vs) p (length (spread us cs))
  unfolding rule
  reach_is p b h l n =
      let d = deal_along s us cs vs in
      let floor = (work_of d).floor in
      let e : reach d p d.last ≡ farthest floor p d.last = ap (λ (u : State). u.place) (rule_greedy d (record { place = 0; paid = p })) in
      let f = farthest_is floor p d.last in
      let low : floor b ≤ p = (coins_low (d.lower b) p).0 l in
      let up : b ≤ farthest floor p d.last = f.greatest b h low in
      let from : floor 0 ≤ floor b = floor_up on_line 0 b (omega arith) h in
      let there : floor (farthest floor p d.last) ≤ p = f.covered (le_trans from low) in
      same (farthest floor p d.last) f.within there up (dec_le (farthest floor p d.last) b) ∙ sym e
    where
      same : (r : ℕ) → r ≤ length (spread us cs) → (work_of (deal_along s us cs vs)).floor r ≤ p → b ≤ r → Dec (r ≤ b) → b ≡ r
      same r w c u (yes k) = omega arith
      same r w c u (no k) =
          let d = deal_along s us cs vs in
          let q : p < (work_of d).floor (suc b) = leb-false _ _ (sym (reach_floor d (suc b) p) ∙ n (omega arith)) in
          let g : (work_of d).floor (suc b) ≤ (work_of d).floor r = floor_up on_line (suc b) r (omega arith) w in
          absurd (omega arith)

  -- no plan where the start is not safe, or where a gap is
  pub none : (Possible (deal_along s us cs vs) → ⊥) → Decides (deal_along s us cs vs) false
  none n =
      record {
        yes = λ e. absurd (subst T (sym e) tt);
        no = λ _ xs p. n ((plan_exists (deal_along s us cs vs) rising (λ a b. refl)).0 (xs, p));
      }

  -- ---- gaps, between the unclipped bounds

  -- the amounts along the segments
  abbrev terms : Terms
  terms = ladder_terms s (spread us cs) (spread us vs)

  -- no gap lies before unit i
  abbrev pub Joined : ℕ → Type 0
  Joined i = unclipped_lower terms (suc i) ≤ℤ unclipped_upper terms i

  pub possible_joined : Possible (deal_along s us cs vs) → (i : ℕ) → i < length (spread us cs) → Joined i
  possible_joined p = ((possible_same terms rising).0 p).no_gap

  pub all : Safe (deal_along s us cs vs) 0 0 → ((i : ℕ) → i < length (spread us cs) → Joined i) → Decides (deal_along s us cs vs) true
  all h g =
      record {
        yes = λ _. (possible_same terms rising).1 (record { start_safe = ((clipped_same terms leb).safe 0 0).0 h; no_gap = g });
        no = λ e. absurd (subst T e tt);
      }

  -- the start is safe, and no gap lies before the cursor's place
  pub record Clear (c : Cursor) : Type 0 where
    pub at : At us cs vs c
    pub safe : Safe (deal_along s us cs vs) 0 0
    pub no_gap : (i : ℕ) → i < c.place → Joined i

  -- ---- by the code's numbers

  module _ (t : Totals) (k : Known us cs vs t) where
    pub lower_at : (c : Cursor) → At us cs vs c → lower_of s.price t.value c.value s.buyer ≡ (deal_along s us cs vs).lower c.place
    lower_at c a = rw (k.value_is, a.value_is)

    pub upper_at : (c : Cursor) → At us cs vs c → upper_of s.price t.cost c.cost s.supplier ≡ (deal_along s us cs vs).upper c.place
    upper_at c a = rw (k.cost_is, a.cost_is)

    start_test_lem : (b : Bool) → b ≡ start_test s.price t.cost 0 t.value 0 → (b ≡ true) ↔ Safe (deal_along s us cs vs) 0 0
    start_test_lem b e =
        let q = start_test↔ terms leb in
        let f : start_test s.price t.cost 0 t.value 0 ≡ start_test s.price (terms.cost terms.last) (terms.cost 0) (terms.value terms.last) (terms.value 0) =
        rw (k.value_is, k.cost_is, sum_zero (spread us cs), sum_zero (spread us vs)) in
        (λ h. q.0 (sym (e ∙ f) ∙ h), λ h. e ∙ f ∙ q.1 h)

    -- the test of the start fails
    pub not_started : (b : Bool) → b ≡ start_test s.price t.cost 0 t.value 0 → not b ≡ true → Safe (deal_along s us cs vs) 0 0 → ⊥
    not_started b e h safe = subst T (sym ((start_test_lem b e).1 safe) ∙ not-true b h) tt

    -- it passes
    pub started : (b : Bool) → b ≡ start_test s.price t.cost 0 t.value 0 → not b ≡ false → Safe (deal_along s us cs vs) 0 0
    started b e h = (start_test_lem b e).0 (not-false b h)

    -- a safe start has a price that covers the whole cost
    pub covered : Safe (deal_along s us cs vs) 0 0 → t.cost ≤ s.price
    covered safe = omega (arith, ((start↔ terms leb).0 (safe.unmoved refl)).high, k.cost_is, sum_zero (spread us cs))

    -- ---- the scan for a gap

    pub start_unsafe : (b : Bool) → b ≡ start_test s.price t.cost 0 t.value 0 → not b ≡ true → Decides (deal_along s us cs vs) false
    start_unsafe b e h = none (λ p. not_started b e h p.start_safe)

    pub clear_start : Safe (deal_along s us cs vs) 0 0 → (c : Cursor) → c ≡ origin → Clear c
    clear_start safe c o =
        rw o (record { at = at_origin us cs vs k.fit; safe = safe; no_gap = λ i (l : i < 0). absurd (omega arith) })

    -- a gap as an order of sums
    pub meet↔ : (cost value : ℕ) → (meet s t cost value ≡ true) ↔ (s.price + value + t.cost ≤ s.price + cost + s.supplier + (t.value + s.buyer))
    meet↔ cost value =
        Iff.trans (le_z_true _ _) (Iff.trans (gap↔ s.price t.value value s.buyer t.cost cost s.supplier) (omega arith))

    -- to is where the n units left of the cursor's segment end
    module _ (c to : Cursor) (o : Open us cs vs c) (n : ℕ) (e : c.used + n ≡ get_or us c.segment 0) (m : There us cs vs to (c.place + n)) where
      some : 0 < n
      some = omega (arith, o.at.left o.more)

      -- n units and one unit less of them
      last_unit : (a : ℕ) → suc (n - 1) * a ≡ n * a
      last_unit a = let q : suc (n - 1) ≡ n = omega (arith, some) in ap (λ (j : ℕ). j * a) q

      to_cost : to.cost ≡ c.cost + n * get_or cs c.segment 0
      to_cost = cost_there us cs vs c o n (omega arith) to m

      to_value : to.value ≡ c.value + n * get_or vs c.segment 0
      to_value = value_there us cs vs c o n (omega arith) to m

      -- one unit has this cost and this value
      pub one_cost : get_or cs c.segment 0 ≤ to.cost
      one_cost = omega (arith, to_cost, last_unit (get_or cs c.segment 0))

      pub one_value : c.value + get_or vs c.segment 0 < 2 ^ 32
      one_value = omega (arith, value_fits us cs vs c o 1 (omega (arith, some)))

      -- no gap lies before unit i of them
      joined↔ : (i : ℕ) → i < n → Joined (c.place + i)
          ↔ (s.price + (c.value + suc i * get_or vs c.segment 0) + t.cost
          ≤ s.price + (c.cost + i * get_or cs c.segment 0) + s.supplier + (t.value + s.buyer))
      joined↔ i l =
          let q : c.place + suc i ≡ suc (c.place + i) = omega arith in
          let g : meet s t (c.cost + i * get_or cs c.segment 0) (c.value + suc i * get_or vs c.segment 0)
          ≡ le_z (unclipped_lower terms (suc (c.place + i))) (unclipped_upper terms (c.place + i)) =
          rw (cost_on us cs vs c o i (omega arith), value_on us cs vs c o (suc i) (omega arith), q, k.value_is, k.cost_is) in
          let w = meet↔ (c.cost + i * get_or cs c.segment 0) (c.value + suc i * get_or vs c.segment 0) in
          (λ h. w.0 (g ∙ (le_z_true _ _).1 h), λ h. (le_z_true _ _).0 (sym g ∙ w.1 h))

      -- the first and the last unit decide
      all_joined : Joined (c.place + 0) → Joined (c.place + (n - 1)) → (i : ℕ) → i < n → Joined (c.place + i)
      all_joined p q i l =
          let v = get_or vs c.segment 0 in
          let x = get_or cs c.segment 0 in
          let first = (joined↔ 0 some).0 p in
          let last = (joined↔ (n - 1) (omega (arith, some))).0 q in
          (joined↔ i l).1
          (omega
          (arith, between (s.price + (c.value + v) + t.cost) (s.price + c.cost + s.supplier + (t.value + s.buyer)) v x i (n - 1 - i) (omega arith) (more i l last)))
        where
          more : (i : ℕ) → i < n
              → s.price + (c.value + suc (n - 1) * get_or vs c.segment 0) + t.cost
              ≤ s.price + (c.cost + (n - 1) * get_or cs c.segment 0) + s.supplier + (t.value + s.buyer)
              → s.price + (c.value + get_or vs c.segment 0) + t.cost + (i + (n - 1 - i)) * get_or vs c.segment 0
              ≤ s.price + c.cost + s.supplier + (t.value + s.buyer) + (i + (n - 1 - i)) * get_or cs c.segment 0
          more i l h = let j : i + (n - 1 - i) ≡ n - 1 = omega arith in rw j (omega arith)

      module _ (b : Bool)
          (f : b ≡ (meet s t c.cost (c.value + get_or vs c.segment 0) && meet s t (to.cost - get_or cs c.segment 0) to.value)) where
        -- the test of both
        both↔ : (b ≡ true) ↔ (Joined (c.place + 0) × Joined (c.place + (n - 1)))
        both↔ =
            let v = get_or vs c.segment 0 in
            let x = get_or cs c.segment 0 in
            let first = meet↔ c.cost (c.value + v) in
            let last = meet↔ (to.cost - x) to.value in
            let first' = joined↔ 0 some in
            let last' = joined↔ (n - 1) (omega (arith, some)) in (
              λ h.
                  let w = (and-eq-true_iff (meet s t c.cost (c.value + v)) (meet s t (to.cost - x) to.value)).0 (sym f ∙ h) in
                  (first'.1 (omega (arith, first.0 w.0)), last'.1 (omega (arith, last.0 w.1, to_cost, to_value, last_unit v, last_unit x))),
              λ h.
                  f ∙ rw (first.1 (omega (arith, first'.0 h.0)))
                  (last.1 (omega (arith, last'.0 h.1, to_cost, to_value, last_unit v, last_unit x))),
            )

        pub gap_none : not b ≡ true → Decides (deal_along s us cs vs) false
        gap_none h =
            none
            (λ p.
            let here = o.more in
            let end = place_on us cs vs c o n (omega arith) in
            subst T (sym (both↔.1 (possible_joined p (c.place + 0) (omega arith), possible_joined p (c.place + (n - 1)) (omega (arith, some)))) ∙ not-true b h) tt)

        pub clear_next : Clear c → not b ≡ false → Clear to
        clear_next r h = record { at = m.at; safe = r.safe; no_gap = λ i l. before i l (dec_le c.place i) }
          where
            before : (i : ℕ) → i < to.place → Dec (c.place ≤ i) → Joined i
            before i l (yes q) =
                let g : i ≡ c.place + (i - c.place) = omega arith in
                let w = both↔.0 (not-false b h) in
                rw g (all_joined w.0 w.1 (i - c.place) (omega (arith, m.place_is)))
            before i l (no q) = r.no_gap i (omega arith)

    pub clear_all : (c : Cursor) → Clear c → t.units ≤ c.place → Decides (deal_along s us cs vs) true
    clear_all c r h = all r.safe (λ i l. r.no_gap i (le_trans l (rw k.units_are at h)))

    -- ---- a delivery

    -- the lower bound of a place is at most what is paid, as an order of sums
    pub low_sums : (paid : ℕ) (c : Cursor) → Reached s us cs vs paid c → s.price + c.value ≤ paid + (t.value + s.buyer)
    low_sums paid c r = (low↔ s.price t.value c.value s.buyer paid).0 (rw (lower_at c r.at) r.low)

    -- free is the value that may still be delivered
    module _ (paid : ℕ) (c : Cursor) (o : Open us cs vs c) (free : ℕ) (q : s.price + c.value + free ≡ paid + (t.value + s.buyer)) where
      -- i of the n units left of the cursor's segment are delivered
      module _ (n : ℕ) (e : c.used + n ≡ get_or us c.segment 0) (i : ℕ) (u : UnitsIn free (get_or vs c.segment 0) n i) (to : Cursor)
          (a : There us cs vs to (c.place + i)) where
        pub reached_on : Reached s us cs vs paid to
        reached_on =
            let here = value_there us cs vs c o i (omega (arith, u.within)) to a in
            let low = (low↔ s.price t.value to.value s.buyer paid).1 (omega (arith, u.enough)) in
            record { at = a.at; low = rw (← lower_at to a.at) low }

        stops : i < n → Delivered s us cs vs paid to
        stops l =
            let next : c.value + suc i * get_or vs c.segment 0 ≡ sum_to (spread us vs) (suc to.place) =
            let g : suc to.place ≡ c.place + suc i = omega (arith, a.place_is) in
            rw g (value_on us cs vs c o (suc i) (omega arith)) in
            let not : le_z ((deal_along s us cs vs).lower (suc to.place)) (pos paid) ≡ false =
            not_so _
            (λ y.
            let g = (low↔ s.price t.value (sum_to (spread us vs) (suc to.place)) s.buyer paid).0 (rw k.value_is ((le_z_true _ _).0 y)) in
            omega (arith, u.most l)) in
            record { at = a.at; reached = reach_is paid to.place a.at.within reached_on.low (λ _. not) }

        -- the cursor is still in the same segment: units of it are left, or none at all
        pub stops_within : to.segment ≡ c.segment → Delivered s us cs vs paid to
        stops_within same = go (dec_le (suc to.place) (length (spread us cs)))
          where
            go : Dec (suc to.place ≤ length (spread us cs)) → Delivered s us cs vs paid to
            go (yes l) =
                let left : to.used < get_or us c.segment 0 = rw (← same) (a.at.left l) in
                let there : to.place ≡ sum_to us c.segment + to.used = rw (← same) a.at.place_is in
                stops (omega (arith, a.place_is, o.at.place_is))
            go (no l) =
                record { at = a.at; reached = reach_is paid to.place a.at.within reached_on.low (λ (m : to.place < length (spread us cs)). absurd (omega arith)) }

      pub stops_here : free < get_or vs c.segment 0 → Delivered s us cs vs paid c
      stops_here l =
          let some = o.at.left o.more in
          stops (get_or us c.segment 0 - c.used) (omega arith) 0 (record { within = omega arith; enough = omega arith; most = λ _. omega arith }) c
          (record { at = o.at; place_is = omega arith }) (omega arith)

    pub stops_last : (paid : ℕ) (c : Cursor) → Reached s us cs vs paid c → t.units ≤ c.place → Delivered s us cs vs paid c
    stops_last paid c r h =
        let q : length (spread us cs) ≤ c.place = rw k.units_are at h in
        record { at = r.at; reached = reach_is paid c.place r.at.within r.low (λ (l : c.place < length (spread us cs)). absurd (omega arith)) }
