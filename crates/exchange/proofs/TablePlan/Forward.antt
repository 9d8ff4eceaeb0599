-- The plan read forwards: from where the end can be reached in j steps, it is reached in j steps, by the earliest rows. Assumes nothing.
use mathlib.Core.Path.{◌≡◌, refl, ap, subst}
use mathlib.Core.Logic.{◌↔◌, ⊎_elim, inl, inr}
use mathlib.Core.List.{List, [], ◌∷◌}
use Prim.Native.Nat.{ℕ, zero, suc, ◌≤◌, ◌<◌}
use native.Mathlib.Nat.{le_refl, eq-or-lt_of_le}
use native.Mathlib.Omega.{arith}
use mir.Facts.{and_yes, yes_and}
use lib.Dec.{T, leb, leb→le, le→leb}
use lib.ListN.{length}
use Rattle.exchange.specs.Deal.{State, Chain, ends}
use Rattle.exchange.specs.Work.{Work, Lawful, WorkStep, WorkSteps}
use Rattle.exchange.specs.Search.{follows, need, fits, first_of, forward, forwards}
use Rattle.exchange.specs.Fewest.{Earlier}
use Rattle.exchange.proofs.GivenOrder.Greedy.{goal}
use Rattle.exchange.proofs.TablePlan.First.{first_is}
use Rattle.exchange.proofs.TablePlan.Need.{Follows, follows↔, next, need_end, steps_need}

-- row b can be delivered at s
pub record Fits (w : Work) (needs : ℕ → ℕ) (s : State) (b : ℕ) : Type 0 where
  pub follow : Follows w needs s.place b
  pub covered : w.floor b ≤ s.paid

fits↔ : (w : Work) (needs : ℕ → ℕ) (s : State) (b : ℕ) → T (fits w needs s b) ↔ Fits w needs s b
fits↔ w needs s b = (
  λ t.
      let both = and_yes (follows w needs s.place b) (leb (w.floor b) s.paid) t in
      record { follow = (follows↔ w needs s.place b).0 both.0; covered = leb→le _ _ both.1 },
  λ f. yes_and (follows w needs s.place b) (leb (w.floor b) s.paid) ((follows↔ w needs s.place b).1 f.follow) (le→leb _ _ f.covered),
)

-- a state of the deal with what is needed to end in j steps
pub record Ready (w : Work) (mark j : ℕ) (s : State) : Type 0 where
  pub in_deal : s.place ≤ w.last
  pub afforded : s.paid ≤ w.cap s.place
  pub enough : need w mark j s.place ≤ s.paid

module _ (w : Work) (mark : ℕ) where
  -- each step pays the most that is afforded at the place before it
  pub forwards_pay : (j : ℕ) (s : State) → Chain (λ t u. u.paid ≡ w.cap t.place) s (forwards w mark j s)
  unfolding forwards forward
  forwards_pay zero s = tt
  forwards_pay (suc j) s = (refl, forwards_pay j (forward w mark j s))

  pub forwards_length : (j : ℕ) (s : State) → length (forwards w mark j s) ≡ j
  unfolding forwards
  forwards_length zero s = refl
  forwards_length (suc j) s = ap suc (forwards_length j (forward w mark j s))

  -- its rows are the earliest, against every list of as many steps from the same row that sets out with no more paid
  pub forwards_earliest : (r : State) (p : ℕ) (ts : List State) → r.paid ≤ p → WorkSteps w r ts → ends r ts ≡ goal w
      → Earlier (forwards w mark (length ts) (record { place = r.place; paid = p })) ts
  unfolding forwards forward
  forwards_earliest r p [] h c e = tt
  forwards_earliest r p (t ∷ ts) h c e =
      let st = c.0 in
      let s : State = record { place = r.place; paid = p } in
      let needs = need w mark (length ts) in
      let n : needs t.place ≤ t.paid = steps_need w mark t ts c.1 e in
      let f : Fits w needs s t.place = record { follow = record { delivers = st.delivers; affords = omega arith }; covered = omega arith } in
      let b : ℕ = first_of (fits w needs s) 0 (suc w.last) in
      let l : b ≤ t.place = (first_is (fits w needs s) 0 (suc w.last)).least t.place (omega arith) ((fits↔ w needs s t.place).1 f) in
      ⊎_elim
      (λ (q : b ≡ t.place). inr (q, rw q (forwards_earliest t (w.cap r.place) ts st.afforded c.1 e)))
      (λ (q : b < t.place). inl q)
      (eq-or-lt_of_le l)

  module _ (law : Lawful w) (high : w.price < mark) where
    module _ (j : ℕ) (s : State) (r : Ready w mark (suc j) s) where
      forward_in : (forward w mark j s).place ≤ w.last
      unfolding forward
      forward_in =
          let x = next w mark law high s r.afforded j r.enough in
          let f : Fits w (need w mark j) s x.row = record { follow = x.follow; covered = x.covered } in
          let l = (first_is (fits w (need w mark j) s) 0 (suc w.last)).least x.row (omega arith) ((fits↔ w (need w mark j) s x.row).1 f) in
          omega arith

      forward_fits : Fits w (need w mark j) s (forward w mark j s).place
      unfolding forward
      forward_fits =
          let l = forward_in in
          (fits↔ w (need w mark j) s _).0 ((first_is (fits w (need w mark j) s) 0 (suc w.last)).passes (omega arith))

      forward_step : WorkStep w s (forward w mark j s)
      unfolding forward
      forward_step =
          let f = forward_fits in
          record { in_deal = forward_in; delivers = f.follow.delivers; pays = r.afforded; covered = f.covered; afforded = le_refl _ }

      forward_ready : Ready w mark j (forward w mark j s)
      unfolding forward
      forward_ready =
          let o = forward_fits.follow in
          record { in_deal = forward_in; afforded = law.cap_rises _ _ r.in_deal forward_in o.delivers; enough = o.affords }

    pub forwards_steps : (j : ℕ) (s : State) → Ready w mark j s → WorkSteps w s (forwards w mark j s)
    unfolding forwards
    forwards_steps zero s r = tt
    forwards_steps (suc j) s r = (forward_step j s r, forwards_steps j (forward w mark j s) (forward_ready j s r))

    pub forwards_arrive : (j : ℕ) (s : State) → Ready w mark j s → ends s (forwards w mark j s) ≡ goal w
    unfolding forwards
    forwards_arrive zero s r = need_end w mark law high s r.afforded r.enough
    forwards_arrive (suc j) s r = forwards_arrive j (forward w mark j s) (forward_ready j s r)

    -- the end is reached in j steps from exactly the sums that are not below need j
    pub reached↔ : (j : ℕ) (s : State) → s.place ≤ w.last → s.paid ≤ w.cap s.place
        → ((xs : List State) × WorkSteps w s xs × (ends s xs ≡ goal w) × (length xs ≡ j)) ↔ (need w mark j s.place ≤ s.paid)
    reached↔ j s i a = (
      λ x. subst (λ (n : ℕ). need w mark n s.place ≤ s.paid) x.3 (steps_need w mark s x.0 x.1 x.2),
      λ h.
          let r : Ready w mark j s = record { in_deal = i; afforded = a; enough = h } in
          (forwards w mark j s, forwards_steps j s r, forwards_arrive j s r, forwards_length j s),
    )
