-- Where a plan in two areas stands after some steps. Assumes nothing.
use mathlib.Core.Path.{◌≡◌, refl, sym, ◌∙◌}
use mathlib.Core.Bool.{Bool, true, and-eq-true_iff}
use mathlib.Core.List.{List, [], ◌∷◌}
use Prim.Native.Nat.{ℕ, zero, suc, ◌≤◌, ◌<◌}
use native.Mathlib.Omega.{arith}
use borrow.Author.Tests.{le-leb, leb-true}
use lib.ListN.{length, get_or, take}
use Rattle.area.specs.Entries.{entries}
use Rattle.exchange.specs.Deal.{State, start, after}
use Rattle.exchange.specs.PlanIn.{states, plan_in}
use Rattle.exchange.proofs.PlanInLaws.{plan_length}
use Rattle.planning.specs.Check.{holds_count}
use Rattle.session.specs.Code.{Held, steps_of}
use Rattle.session.specs.declared.Plan.{Plan}

pub after_none : (s : State) (xs : List State) → after s xs 0 ≡ s
after_none s [] = refl
after_none s (t ∷ ts) = refl

states_after : (s : State) (ps qs : List ℕ) (n k : ℕ) → n ≤ length ps → n ≤ length qs → k < n
    → after s (states (take n ps) (take n qs)) (suc k) ≡ record { place = get_or ps k 0; paid = get_or qs k 0 }
unfolding states
states_after s ps qs zero k h l m = absurd (omega arith)
states_after s [] qs (suc n) k h l m = absurd (omega arith)
states_after s (p ∷ ps) [] (suc n) k h l m = absurd (omega arith)
states_after s (p ∷ ps) (q ∷ qs) (suc n) zero h l m = after_none _ (states (take n ps) (take n qs))
states_after s (p ∷ ps) (q ∷ qs) (suc n) (suc k) h l m = states_after _ ps qs n k (omega arith) (omega arith) (omega arith)

-- the entry of the step before the one after k steps: 0 at the start
abbrev pub entry_before : List ℕ → ℕ → ℕ
entry_before es zero = 0
entry_before es (suc k) = get_or es k 0

module _ (p : Plan) where
  pub held_count : Held p → holds_count p.count p.places.now p.sums.now ≡ true
  unfolding holds_count
  held_count h = rw (le-leb _ _ h.places_hold) (le-leb _ _ h.sums_hold)

  pub count_held : {r : Bool} → r ≡ holds_count p.count p.places.now p.sums.now → r ≡ true → Held p
  unfolding holds_count
  count_held e h =
      let f = (and-eq-true_iff _ _).0 (sym e ∙ h) in
      record { places_hold = leb-true _ _ f.0; sums_hold = leb-true _ _ f.1 }

  module _ (h : Held p) where
    pub held_length : length (steps_of p) ≡ p.count
    held_length = plan_length p.places.now p.sums.now p.count h.places_hold h.sums_hold

    -- after the next step the plan stands at the entries of that step
    pub held_after : (k : ℕ) → k < p.count
        → after start (steps_of p) (suc k) ≡ record { place = get_or (entries 2 p.places.now) k 0; paid = get_or (entries 4 p.sums.now) k 0 }
    unfolding plan_in
    held_after k l = states_after start (entries 2 p.places.now) (entries 4 p.sums.now) p.count k h.places_hold h.sums_hold l

    -- and before it at those of the step before
    pub held_before : (k : ℕ) → k < p.count
        → after start (steps_of p) k ≡ record { place = entry_before (entries 2 p.places.now) k; paid = entry_before (entries 4 p.sums.now) k }
    held_before zero l = after_none start (steps_of p)
    held_before (suc k) l = held_after k (omega arith)
