-- Clipping the bounds changes no safe state, no plan, no order, and not whether there is a plan. Assumes nothing.
use mathlib.Core.Path.{◌≡◌, refl, sym, ◌∙◌}
use mathlib.Core.Logic.Iff
use mathlib.Core.Logic.{◌↔◌}
use mathlib.Core.Bool.{Bool, true, false, cond}
use mathlib.Core.List.{List, [], ◌∷◌}
use Prim.Native.Nat.{ℕ, zero, suc, min, ◌≤◌}
use native.Mathlib.Omega.{arith}
use borrow.Author.Tests.{ltb-false, lt-ltb}
use lib.Dec.{leb, ltb, le→leb}
use lib.IntN.{ℤ, pos, negsuc}
use lib.Signed.{◌<ℤ◌, clash_ℤ}
use Rattle.exchange.specs.Bounds.{Terms, minℤ, maxℤ, unclipped_upper_of, unclipped_lower_of, upper_of, lower_of, upper, lower, unclipped_upper, unclipped_lower}
use Rattle.exchange.specs.Deal.{Deal, State, WithinBounds, Safe, Step, Steps, Chain, Plan, with_bounds, deal_of, unclipped, start}
use Rattle.exchange.specs.Forms.{order_terms, line}
use Rattle.exchange.specs.Rule.{coins, reach, rule, ruled}
use Rattle.exchange.specs.Possible.{Possible}
use Rattle.exchange.specs.Chosen.{together, InChosenOrder, IsChosen}
use Rattle.exchange.specs.Fewest.{PaysMost, Earliest}
use Rattle.exchange.specs.Objectives.{PlanFor, Opens, delivery_only, payment_only}
use Rattle.exchange.specs.Clipped.{SamePlans}
use Rattle.exchange.specs.Work.{Rising}
use Rattle.exchange.specs.declared.Objective.{Objective}
use Rattle.exchange.specs.declared.Sides.{Sides}
use Rattle.exchange.proofs.Int.{≤_trans, ≤-min, max_≤}
use Rattle.exchange.proofs.BoundLaws.{high_same, low_same}
use Rattle.exchange.proofs.Bridge.{reach_floor, safe_within}

-- ---- as sums of coins

coins_from_zero : (z : ℤ) → coins (maxℤ z (pos 0)) ≡ coins z
coins_from_zero (pos zero) = refl
coins_from_zero (pos (suc n)) = rw (lt-ltb 0 (suc n) (omega arith))
coins_from_zero (negsuc n) = refl

coins_up_to : (z : ℤ) (P : ℕ) → min (coins (minℤ z (pos P))) P ≡ min (coins z) P
coins_up_to (pos n) P = go (ltb n P) refl
  where
    go : (t : Bool) → ltb n P ≡ t → min (coins (cond t (pos n) (pos P))) P ≡ min n P
    go true e = refl
    go false e = omega (arith, ltb-false n P e)
coins_up_to (negsuc n) P = refl

-- the least that is paid
least_same : (P vd_l vd cd : ℕ) → coins (lower_of P vd_l vd cd) ≡ coins (unclipped_lower_of P vd_l vd cd)
unfolding lower_of
least_same P vd_l vd cd = coins_from_zero (unclipped_lower_of P vd_l vd cd)

-- the most that is paid
pub most_same : (P vs_l vs cs : ℕ) → min (coins (upper_of P vs_l vs cs)) P ≡ min (coins (unclipped_upper_of P vs_l vs cs)) P
unfolding upper_of
most_same P vs_l vs cs = coins_up_to (unclipped_upper_of P vs_l vs cs) P

-- ---- two deals that differ in their bounds alone, and have the same safe states, payments and deliveries

module _ (t : Terms) (holds : ℕ → ℕ → Bool) where
  abbrev by : (ℕ → ℤ) → (ℕ → ℤ) → Deal
  by upper lower = with_bounds upper lower t holds

  -- the start is judged by neither bound
  safe_by : {u l u' l' : ℕ → ℤ} {x p : ℕ} → (WithinBounds (by u l) x p → WithinBounds (by u' l') x p) → Safe (by u l) x p → Safe (by u' l') x p
  safe_by same s =
      record {
        unmoved = λ e. let h = s.unmoved e in record { least = h.least; most = h.most };
        moved = λ m. same (s.moved m);
      }

  record Same (u l u' l' : ℕ → ℤ) : Type 0 where
    safe : (x p : ℕ) → Safe (by u l) x p ↔ Safe (by u' l') x p
    most : (x : ℕ) → min (coins (u x)) t.price ≡ min (coins (u' x)) t.price
    least : (x : ℕ) → coins (l x) ≡ coins (l' x)

  turned : {u l u' l' : ℕ → ℤ} → Same u l u' l' → Same u' l' u l
  turned s = record { safe = λ x p. Iff.symm (s.safe x p); most = λ x. sym (s.most x); least = λ x. sym (s.least x) }

  module _ {u l u' l' : ℕ → ℤ} (s : Same u l u' l') where
    all_steps : (a : State) (xs : List State) → Steps (by u l) a xs → Steps (by u' l') a xs
    all_steps a [] h = tt
    all_steps a (b ∷ xs) h =
        let step : Step (by u l) a b = h.0 in (
          record {
            in_deal = step.in_deal;
            delivers = step.delivers;
            pays = step.pays;
            safe = (s.safe _ _).0 step.safe;
            safe_delivered = (s.safe _ _).0 step.safe_delivered;
            safe_paid = (s.safe _ _).0 step.safe_paid;
            safe_after = (s.safe _ _).0 step.safe_after;
          },
          all_steps b xs h.1,
        )

    plan : (xs : List State) → Plan (by u l) xs → Plan (by u' l') xs
    plan xs h = record { steps = all_steps start xs h.steps; arrives = h.arrives }

    -- the rule

    reach_same : (p n : ℕ) → reach (by u l) p n ≡ reach (by u' l') p n
    unfolding reach
    reach_same p zero = refl
    reach_same p (suc n) =
        rw (reach_floor (by u l) (suc n) p, reach_floor (by u' l') (suc n) p, s.least (suc n), reach_same p n)

    rule_same : (a : State) → rule (by u l) a ≡ rule (by u' l') a
    unfolding rule
    rule_same a = rw (reach_same a.paid t.last, s.most a.place)

    ruled_same : (a : State) (n : ℕ) → ruled (by u l) a n ≡ ruled (by u' l') a n
    unfolding ruled
    ruled_same a zero = refl
    ruled_same a (suc n) = rw (rule_same a, ruled_same (rule (by u' l') a) n)

    opens : (f : State) (xs : List State) → Opens (by u l) f xs → Opens (by u' l') f xs
    opens f xs o =
        record {
          ruled_steps = o.ruled_steps;
          arrives =
              record {
                there = rw (← (ruled_same f o.ruled_steps)) o.arrives.there;
                not_before = λ k i e. o.arrives.not_before k i (rw (ruled_same f k) e);
              };
          steps_are = rw (← (ruled_same f o.ruled_steps)) o.steps_are;
        }

    delivery_same : delivery_only (by u l) ≡ delivery_only (by u' l')
    unfolding delivery_only
    delivery_same = rw (rule_same start)

    payment_same : payment_only (by u l) ≡ payment_only (by u' l')
    unfolding payment_only
    payment_same = rw (rule_same start)

    plan_for : (aim : Objective) (xs : List State) → PlanFor aim (by u l) xs → PlanFor aim (by u' l') xs
    plan_for Objective.Steps xs o = opens start xs o
    plan_for Objective.Payments xs o = rw (← delivery_same) (opens _ xs o)
    plan_for Objective.Deliveries xs o = rw (← payment_same) (opens _ xs o)
    plan_for Objective.Moves xs o =
        record {
          paying = o.paying;
          delivering = o.delivering;
          payment_start = rw (← payment_same) (opens _ o.paying o.payment_start);
          delivery_start = rw (← delivery_same) (opens _ o.delivering o.delivery_start);
          steps_are = o.steps_are;
        }

    -- fewest steps

    pays_most : (a : State) (xs : List State) → Chain (PaysMost (by u l)) a xs → Chain (PaysMost (by u' l')) a xs
    pays_most a [] h = tt
    pays_most a (b ∷ xs) h = (h.0 ∙ s.most a.place, pays_most b xs h.1)

    earliest : ((ys : List State) → Plan (by u' l') ys → Plan (by u l) ys) → (xs : List State) → Earliest (by u l) xs → Earliest (by u' l') xs
    earliest back xs h =
        record {
          fewest =
              record {
                plan = plan xs h.fewest.plan;
                least = λ ys p. h.fewest.least ys (back ys p);
                pays_most = pays_most start xs h.fewest.pays_most;
              };
          earliest = λ ys p. h.earliest ys (back ys p);
        }

  same_plans : {u l u' l' : ℕ → ℤ} → Same u l u' l' → SamePlans (by u l) (by u' l')
  same_plans s =
      record {
        safe = s.safe;
        plans = λ xs. (plan s xs, plan (turned s) xs);
        plans_for = λ aim xs. (plan_for s aim xs, plan_for (turned s) aim xs);
        earliest = λ xs. (earliest s (plan (turned s)) xs, earliest (turned s) (plan s) xs);
      }

-- ---- a deal and the deal with the same amounts by the unclipped bounds

pub clipped_same : (t : Terms) (holds : ℕ → ℕ → Bool) → SamePlans (deal_of t holds) (unclipped t holds)
clipped_same t holds =
    same_plans t holds {u = upper t} {l = lower t} {u' = unclipped_upper t} {l' = unclipped_lower t}
    (record {
      safe = λ x p. (
        safe_by t holds
            (λ w. record { low = (low_same _ _ _ _ p).0 w.low; high = (high_same _ _ _ _ p w.within).0 w.high; within = w.within }),
        safe_by t holds
            (λ w. record { low = (low_same _ _ _ _ p).1 w.low; high = (high_same _ _ _ _ p w.within).1 w.high; within = w.within }),
      );
      most = λ x. most_same _ _ _ _;
      least = λ x. least_same _ _ _ _;
    })

-- along one order, neither is possible without the other
pub possible_same : (t : Terms) → Rising (line t) → Possible (line t) ↔ Possible (unclipped t leb)
unfolding upper_of lower_of
possible_same t r =
    let safe = (clipped_same t leb).safe 0 0 in (
      λ h.
          record {
            start_safe = safe.0 h.start_safe;
            no_gap = λ i l. ((≤-min _ _ _).0 ((max_≤ _ (pos 0) _).0 (h.no_gap i l)).0).0;
          },
      λ h.
          record {
            start_safe = safe.1 h.start_safe;
            no_gap = λ i l.
                let from = ≤_trans (safe_within (line t) r 0 0 (safe.1 h.start_safe)).high (r.upper_rises 0 i (omega arith) (omega arith) (r.holds_start i)) in
                let to = ≤_trans (r.lower_rises (suc i) t.last l (omega arith) (le→leb (suc i) t.last l)) (safe_within (line t) r _ _ r.end_safe).low in
                (≤-min _ _ _).1 ((max_≤ _ (pos 0) _).1 (h.no_gap i l, ((≤-min _ _ _).0 from).0), to);
          },
    )

-- "A negative upper bound .. shows that the start isn't safe", of whatever place it is
pub negative_unsafe : (d : Deal) → Rising d → (x : ℕ) → x ≤ d.last → d.upper x <ℤ pos 0 → Safe d 0 0 → ⊥
negative_unsafe d r x l h s = clash_ℤ h (≤_trans (safe_within d r 0 0 s).high (r.upper_rises 0 x (omega arith) l (r.holds_start x)))

-- the order that is chosen is W2's own, by the unclipped bounds
pub order_same : (p : Sides) (units costs values items : List ℕ)
    → IsChosen p units costs values items
    ≡ InChosenOrder (unclipped (order_terms p costs values (together units items)) leb) units costs values items
order_same p units costs values items = refl
