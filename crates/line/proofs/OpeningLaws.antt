-- The first step of the plan for each aim, found along the segments. Assumes nothing.
use mathlib.Core.Path.{◌≡◌, refl, sym, ap, subst}
use mathlib.Core.List.{List, []}
use Prim.Native.Nat.{ℕ, ◌+◌, ◌≤◌, ◌<◌, ◌^◌, min}
use native.Mathlib.Omega.{arith}
use lib.ListN.{length}
use Rattle.area.proofs.FilledLaws.{entries_same}
use Rattle.exchange.specs.Arrival.{Arrives}
use Rattle.exchange.specs.Deal.{State, start}
use Rattle.exchange.specs.Possible.{Possible}
use Rattle.exchange.specs.Rule.{coins, rule}
use Rattle.exchange.specs.Objectives.{delivery_only, payment_only, opening, Opens, PlanFor}
use Rattle.exchange.specs.declared.Objective.{Objective}
use Rattle.exchange.specs.declared.Sides.{Sides}
use Rattle.exchange.proofs.GivenOrder.Run.{state_eq}
use Rattle.line.specs.Segments.{deal_along}
use Rattle.line.specs.Code.{Known, At, Reached, Delivered, Begins, Sets, Begun, Counts, origin, state_of}
use Rattle.line.specs.Code as code
use Rattle.line.specs.Course as course
use Rattle.line.specs.Course.{Course, Room}
use Rattle.line.specs.OpeningCode.{Leads, Chosen, at_start, after_payment}
use Rattle.line.specs.declared.Cursor.{Cursor}
use Rattle.line.specs.declared.Totals.{Totals}
use Rattle.line.specs.declared.First.{First}
use Rattle.line.proofs.SegmentLaws.{at_origin}
use Rattle.exchange.proofs.Bridge.{safe_within}
use Rattle.line.proofs.DealLaws.{rising, upper_at}
use Rattle.line.proofs.FirstLaws.{start_begins, delivery_begins, payment_begins, takes_payment, takes_delivery}

module _ (s : Sides) (us cs vs : List ℕ) where
  -- a first step is where its own state is
  pub leads_own : {f : State} {r : First} → Leads s us cs vs f r → Leads s us cs vs (state_of r) r
  leads_own b = record { state_is = refl; sets = b.sets }

  pub sets_at : {c : Cursor} {paid j k : ℕ} → j ≡ k → Sets s us cs vs c paid k → Sets s us cs vs c paid j
  sets_at {c} {paid} e h = subst (λ (k : ℕ). Sets s us cs vs c paid k) (sym e) h

  -- with the first step not counted
  pub sets_uncounted : {c : Cursor} {paid k : ℕ} → Sets s us cs vs c paid k → Sets s us cs vs c paid 0
  sets_uncounted h =
      record { at = h.at; begins = record { step = h.begins.step; short = λ n a. omega (arith, h.begins.short n a) } }

  pub chosen_for : {x aim : Objective} {r : First} → x ≡ aim → Chosen aim s us cs vs r → Chosen x s us cs vs r
  chosen_for {r = r} e h = subst (λ (a : Objective). Chosen a s us cs vs r) (sym e) h

  -- the aim for which the plan that opens with f is asked
  pub chosen : (aim : Objective) (f : State) (r : First) → Leads s us cs vs f r
      → ((xs : List State) → Opens (deal_along s us cs vs) f xs → PlanFor aim (deal_along s us cs vs) xs) → Chosen aim s us cs vs r
  chosen aim f r b suits =
      record { sets = b.sets; suits = λ xs o. suits xs (subst (λ (g : State). Opens (deal_along s us cs vs) g xs) b.state_is o) }

  -- a cursor and a payment that stand where a plan may begin
  leads_to : (f : State) → Begins (deal_along s us cs vs) f (length (opening f [])) → (r : First) → At us cs vs r.cursor → state_of r ≡ f
      → Leads s us cs vs f r
  leads_to f b r a e =
      record { state_is = e; sets = record { at = a; begins = subst (λ (g : State). Begins (deal_along s us cs vs) g (length (opening g []))) (sym e) b } }

  module _ (t : Totals) (k : Known us cs vs t) (q : Possible (deal_along s us cs vs)) where
    -- a plan that begins so has few steps
    pub few_steps : {c : Cursor} {paid j : ℕ} → Sets s us cs vs c paid j → {n : ℕ}
        → Arrives (deal_along s us cs vs) (record { place = c.place; paid = paid }) n → j + n < 2 ^ 18
    few_steps b {n} a = omega (arith, b.begins.short n a, k.fit.units_fit)

    at_first : (c : Cursor) → c ≡ origin → At us cs vs c
    at_first c o = rw o (at_origin us cs vs k.fit)

    first_place : (c : Cursor) → c ≡ origin → c.place ≡ 0
    first_place c o = ap (λ (x : Cursor). x.place) o

    -- nothing is delivered yet, and nothing need be paid there
    pub origin_reached : (c : Cursor) → c ≡ origin → Reached s us cs vs 0 c
    origin_reached c o = record { at = at_first c o; low = rw (first_place c o) (safe_within _ (rising s us cs vs) 0 0 q.start_safe).low }

    pub leads_none : (r : First) → r ≡ at_start → Leads s us cs vs start r
    leads_none r e =
        subst (Leads s us cs vs start) (sym e)
        (leads_to start (start_begins (deal_along s us cs vs) (rising s us cs vs) (λ a b. refl) q) at_start (at_first origin refl) refl)

    pub leads_delivery : (c : Cursor) → Delivered s us cs vs 0 c → Leads s us cs vs (delivery_only (deal_along s us cs vs)) (record { cursor = c; paid = 0 })
    unfolding delivery_only rule
    leads_delivery c m =
        leads_to _ (delivery_begins (deal_along s us cs vs) (rising s us cs vs) (λ a b. refl) q) _ m.at (state_eq m.reached refl)

    pub leads_payment : (r : First) → r ≡ after_payment s t → Leads s us cs vs (payment_only (deal_along s us cs vs)) r
    unfolding payment_only rule
    leads_payment r e =
        let up = upper_at s us cs vs t k origin (at_first origin refl) in
        subst (Leads s us cs vs (payment_only (deal_along s us cs vs))) (sym e)
        (leads_to _ (payment_begins (deal_along s us cs vs) (rising s us cs vs) (λ a b. refl) q) (after_payment s t) (at_first origin refl)
        (state_eq refl (ap (λ z. min (coins z) s.price) up)))

    -- the counts of both plans decide
    module _ (one other : First) (m n : ℕ) (bp : Leads s us cs vs (payment_only (deal_along s us cs vs)) one)
        (bg : Leads s us cs vs (delivery_only (deal_along s us cs vs)) other) (cp : Counts (deal_along s us cs vs) (state_of one) m)
        (cg : Counts (deal_along s us cs vs) (state_of other) n) where
      paying : Counts (deal_along s us cs vs) (payment_only (deal_along s us cs vs)) m
      paying = subst (λ (g : State). Counts (deal_along s us cs vs) g m) bp.state_is cp

      giving : Counts (deal_along s us cs vs) (delivery_only (deal_along s us cs vs)) n
      giving = subst (λ (g : State). Counts (deal_along s us cs vs) g n) bg.state_is cg

      pub fewer_paying : m ≤ n → Chosen Objective.Moves s us cs vs one
      fewer_paying h =
          chosen Objective.Moves _ one bp (takes_payment (deal_along s us cs vs) (rising s us cs vs) (λ a b. refl) q m n paying giving h)

      pub fewer_giving : n < m → Chosen Objective.Moves s us cs vs other
      fewer_giving h =
          chosen Objective.Moves _ other bg (takes_delivery (deal_along s us cs vs) (rising s us cs vs) (λ a b. refl) q m n paying giving h)

-- the first step leaves the areas as long
pub room_kept : (x : Course) → course.Known x → {places sums places' sums' : List ℕ} {f : State} {n : ℕ} → Room x places sums
    → Begun f n places sums places' sums' → code.Room 2 x.units x.costs places' × code.Room 4 x.units x.costs sums'
room_kept x k {places} {sums} {places'} {sums'} r b = (
  omega (arith, r.places_room, k.units_are, entries_same 2 places places' b.written.places_hold.length_kept),
  omega (arith, r.sums_room, k.units_are, entries_same 4 sums sums' b.written.sums_hold.length_kept),
)
