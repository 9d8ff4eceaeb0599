-- What a row needs to end in j steps: no list of j steps ends from less, and one step more never needs more. Assumes nothing.
use mathlib.Core.Path.{◌≡◌, refl, sym, subst, ◌∙◌}
use mathlib.Core.Logic.{◌↔◌}
use mathlib.Core.List.{List, [], ◌∷◌}
use Prim.Native.Nat.{ℕ, zero, suc, ◌≤◌, ◌<◌}
use native.Mathlib.Nat.{le_refl, le_trans}
use native.Mathlib.Decide.{dec_lt, ℕ_discrete, le_ind}
use native.Mathlib.Omega.{arith}
use mir.Facts.{and_yes, yes_and}
use borrow.Author.Tests.{eq-eqb, ne_eqb}
use lib.Dec.{T, leb, leb→le, le→leb}
use lib.ListN.{length}
use Rattle.exchange.specs.Deal.{State, ends}
use Rattle.exchange.specs.Work.{Work, Lawful, WorkSteps}
use Rattle.exchange.specs.Search.{follows, need}
use Rattle.exchange.proofs.GivenOrder.Run.{state_eq}
use Rattle.exchange.proofs.GivenOrder.Greedy.{goal}
use Rattle.exchange.proofs.TablePlan.Floor.{floor_is_least, floor_ext}

-- row b can follow row a
pub record Follows (w : Work) (needs : ℕ → ℕ) (a b : ℕ) : Type 0 where
  pub delivers : T (w.holds a b)
  pub affords : needs b ≤ w.cap a

pub follows↔ : (w : Work) (needs : ℕ → ℕ) (a b : ℕ) → T (follows w needs a b) ↔ Follows w needs a b
follows↔ w needs a b = (
  λ t.
      let both = and_yes (w.holds a b) (leb (needs b) (w.cap a)) t in
      record { delivers = both.0; affords = leb→le _ _ both.1 },
  λ o. yes_and (w.holds a b) (leb (needs b) (w.cap a)) o.delivers (le→leb _ _ o.affords),
)

-- a row of the deal that can follow row a, covered by p
pub record Next (w : Work) (needs : ℕ → ℕ) (a p : ℕ) : Type 0 where
  pub row : ℕ
  pub in_deal : row ≤ w.last
  pub follow : Follows w needs a row
  pub covered : w.floor row ≤ p

module _ (w : Work) (mark : ℕ) where
  need_last : need w mark 0 w.last ≡ w.price
  unfolding need
  need_last = rw (eq-eqb w.last w.last refl)

  need_other : (a : ℕ) → (a ≡ w.last → ⊥) → need w mark 0 a ≡ mark
  unfolding need
  need_other a n = rw (ne_eqb a w.last n)

  pub need_le : (j a b : ℕ) → b ≤ w.last → T (w.holds a b) → need w mark j b ≤ w.cap a → need w mark (suc j) a ≤ w.floor b
  unfolding need
  need_le j a b i h k =
      (floor_is_least w mark (need w mark j) a (suc w.last)).least b (omega arith)
      ((follows↔ w (need w mark j) a b).1 (record { delivers = h; affords = k }))

  need_marked : (j a : ℕ) → need w mark (suc j) a ≤ mark
  unfolding need
  need_marked j a = (floor_is_least w mark (need w mark j) a (suc w.last)).marked

  attained : (j a : ℕ) → need w mark (suc j) a < mark → Next w (need w mark j) a (need w mark (suc j) a)
  unfolding need
  attained j a h =
      let x = (floor_is_least w mark (need w mark j) a (suc w.last)).attained h in
      record { row = x.row; in_deal = omega arith; follow = (follows↔ w (need w mark j) a _).0 x.follow; covered = omega arith }

  -- no list of steps ends from less
  pub steps_need : (s : State) (xs : List State) → WorkSteps w s xs → ends s xs ≡ goal w → need w mark (length xs) s.place ≤ s.paid
  steps_need s [] c e = subst (λ (t : State). need w mark 0 t.place ≤ t.paid) (sym e) (omega (arith, need_last))
  steps_need s (t ∷ ts) c e =
      let st = c.0 in
      let i : need w mark (length ts) t.place ≤ t.paid = steps_need t ts c.1 e in
      le_trans (need_le (length ts) s.place t.place st.in_deal st.delivers (omega arith)) st.covered

  need_ext : (j k a : ℕ) → ((b : ℕ) → b ≤ w.last → need w mark j b ≡ need w mark k b) → need w mark (suc j) a ≡ need w mark (suc k) a
  unfolding need
  need_ext j k a h = floor_ext w mark (need w mark j) (need w mark k) a (suc w.last) (λ b l. h b (omega arith))

  -- where one step more changes no row's need, no more steps do
  pub need_settled : (j : ℕ) → ((a : ℕ) → a ≤ w.last → need w mark (suc j) a ≡ need w mark j a) → (k : ℕ) → j ≤ k
      → (a : ℕ) → a ≤ w.last → need w mark k a ≡ need w mark j a
  need_settled j same =
      le_ind (λ (m : ℕ). (a : ℕ) → a ≤ w.last → need w mark m a ≡ need w mark j a) (λ a i. refl)
      (λ m _ h a i. need_ext m j a h ∙ same a i)

  module _ (law : Lawful w) where
    -- one step more never needs more: a step may move nothing
    need_falls : (j a : ℕ) → need w mark (suc j) a ≤ need w mark j a
    need_falls zero a = go (ℕ_discrete a w.last)
      where
        go : Dec (a ≡ w.last) → need w mark 1 a ≤ need w mark 0 a
        go (yes e) =
            let l = need_le 0 w.last w.last (le_refl _) (law.holds_self _) (omega (arith, need_last, law.cap_last)) in
            rw e (omega (arith, need_last, law.floor_last))
        go (no n) = rw (need_other a n) (need_marked 0 a)
    need_falls (suc j) a = go (dec_lt (need w mark (suc j) a) mark) (need_falls j)
      where
        go : Dec (need w mark (suc j) a < mark) → ((b : ℕ) → need w mark (suc j) b ≤ need w mark j b)
            → need w mark (suc (suc j)) a ≤ need w mark (suc j) a
        go (yes l) falls =
            let x = attained j a l in
            le_trans (need_le (suc j) a x.row x.in_deal x.follow.delivers (le_trans (falls x.row) x.follow.affords)) x.covered
        go (no m) falls = omega (arith, need_marked (suc j) a)

    pub need_never_rises : (j k a : ℕ) → j ≤ k → need w mark k a ≤ need w mark j a
    need_never_rises j k a = le_ind (λ (m : ℕ). need w mark m a ≤ need w mark j a) (le_refl _) (λ m _ h. le_trans (need_falls m a) h) k

    -- a row from which the end is reached needs at least its floor
    floor_need : (j a : ℕ) → a ≤ w.last → need w mark j a < mark → w.floor a ≤ need w mark j a
    floor_need zero a i h = go (ℕ_discrete a w.last)
      where
        go : Dec (a ≡ w.last) → w.floor a ≤ need w mark 0 a
        go (yes e) = rw e (omega (arith, need_last, law.floor_last))
        go (no n) = absurd (omega (arith, need_other a n))
    floor_need (suc j) a i h =
        let x = attained j a h in
        omega (arith, law.floor_rises a x.row i x.in_deal x.follow.delivers, x.covered)

    module _ (high : w.price < mark) where
      -- and what it needs may be paid there
      pub need_paid : (j a : ℕ) → a ≤ w.last → need w mark j a < mark → need w mark j a ≤ w.cap a
      need_paid zero a i h = go (ℕ_discrete a w.last)
        where
          go : Dec (a ≡ w.last) → need w mark 0 a ≤ w.cap a
          go (yes e) = rw e (omega (arith, need_last, law.cap_last))
          go (no n) = absurd (omega (arith, need_other a n))
      need_paid (suc j) a i h =
          let x = attained j a h in
          let f : w.floor x.row ≤ need w mark j x.row =
          floor_need j x.row x.in_deal (omega (arith, x.follow.affords, law.cap_price a)) in
          omega (arith, need_le j a x.row x.in_deal x.follow.delivers x.follow.affords, x.follow.affords)

      -- so with one step more it needs its floor: that step stays and pays
      pub need_own : (j a : ℕ) → a ≤ w.last → need w mark j a < mark → need w mark (suc j) a ≡ w.floor a
      need_own j a i h =
          let down : need w mark (suc j) a ≤ w.floor a = need_le j a a i (law.holds_self a) (need_paid j a i h) in
          let up : w.floor a ≤ need w mark (suc j) a = floor_need (suc j) a i (omega (arith, need_falls j a)) in
          omega arith

    -- the mark is above every sum that may be paid, so a need that is met is not the mark
    module _ (high : w.price < mark) (s : State) (h : s.paid ≤ w.cap s.place) where
      pub need_end : need w mark 0 s.place ≤ s.paid → s ≡ goal w
      need_end k = go (ℕ_discrete s.place w.last)
        where
          go : Dec (s.place ≡ w.last) → s ≡ goal w
          go (yes e) = state_eq e (omega (arith, need_last, law.cap_price s.place, rw e at k))
          go (no n) = absurd (omega (arith, need_other s.place n, law.cap_price s.place))

      pub next : (j : ℕ) → need w mark (suc j) s.place ≤ s.paid → Next w (need w mark j) s.place s.paid
      next j k =
          let x = attained j s.place (omega (arith, law.cap_price s.place)) in
          record { row = x.row; in_deal = x.in_deal; follow = x.follow; covered = le_trans x.covered k }
