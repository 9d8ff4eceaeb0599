-- What the code's tests say of a step and of a session. Assumes nothing.
use mathlib.Core.Path.{◌≡◌, refl, sym, ap, ◌∙◌}
use mathlib.Core.Bool.{Bool, true, false, not, ◌&&◌, and-eq-true_iff}
use mathlib.Core.List.{List}
use Prim.Native.Nat.{ℕ, zero, suc, min, ◌+◌, ◌-◌, ◌≤◌, ◌<◌}
use native.Mathlib.Numerals.{add-one}
use native.Mathlib.Omega.{arith}
use borrow.Author.Tests.{leb-true, eqb-true, leb-false, le-leb, lt-leb}
use lib.Dec.{leb, eqb}
use lib.ListN.{length, get_or}
use Rattle.area.specs.Entries.{entries}
use Rattle.contract.specs.Res.{refused, ok}
use Rattle.exchange.specs.Deal.{State, start, after}
use Rattle.planning.specs.Check.{holds_count}
use Rattle.session.specs.Session.{entry_of, awaited, moves, mark, finished_by, fits, done, at_step, settle, report_in, report_on}
use Rattle.session.specs.Code.{Open, StandsAt, entries_of, step_at, steps_of}
use Rattle.session.specs.declared.Plan.{Plan}
use Rattle.session.specs.declared.Session.{Session}
use Rattle.session.specs.declared.Step.{Step}
use Rattle.session.specs.declared.Side.{Side}
use Rattle.session.specs.declared.Side.TheVariants.{Delivery, Payment}
use Rattle.session.proofs.PlanLaws.{entry_before, held_count, count_held, held_length, held_after, held_before}

-- ---- steps passed over

module _ (xs : List State) (s : Session) where
  pub settle_stays : (n : ℕ) → done xs s ≡ false → settle xs n s ≡ s
  unfolding settle
  settle_stays zero e = refl
  settle_stays (suc n) e = rw e

  pub settle_passes : (n : ℕ) → done xs s ≡ true → settle xs (suc n) s ≡ settle xs n (at_step (suc s.passed))
  unfolding settle
  settle_passes n e = rw e

  -- by the steps that are left
  module _ (count k : ℕ) where
    pub settle_end : count ≤ k → settle xs (count - k) s ≡ s
    unfolding settle
    settle_end h = let e : count - k ≡ 0 = omega arith in rw e

    pub settle_next : s.passed ≡ k → k < count → done xs s ≡ true → settle xs (count - (k + 1)) (at_step (k + 1)) ≡ settle xs (count - k) s
    settle_next p h e =
        let d : count - k ≡ suc (count - suc k) = omega arith in
        rw (add-one k, d) (sym (settle_passes (count - suc k) e ∙ rw p))

-- ---- the step after k steps

module _ (p : Plan) (k : ℕ) (o : Open p k) where
  pub side_entry : (side : Side) → get_or (entries_of side p) k 0 ≡ entry_of side (after start (steps_of p) (suc k))
  side_entry Delivery = rw (held_after p o.held k o.before_end)
  side_entry Payment = rw (held_after p o.held k o.before_end)

  side_before : (side : Side) → entry_before (entries_of side p) k ≡ entry_of side (after start (steps_of p) k)
  side_before Delivery = rw (held_before p o.held k o.before_end)
  side_before Payment = rw (held_before p o.held k o.before_end)

  -- by the entry of the step and that of the step before
  pub moves_by : (side : Side) {a b : ℕ} → a ≡ get_or (entries_of side p) k 0 → b ≡ entry_before (entries_of side p) k
      → not (eqb a b) ≡ moves (steps_of p) k side
  unfolding moves
  moves_by side e f = rw (e, f, side_entry side, side_before side)

  -- after it the plan stands at its entries
  pub step_stands : StandsAt p (k + 1) (step_at p k)
  step_stands = record { held = o.held; state_is = rw (add-one k) (held_after p o.held k o.before_end) }

  -- a step with no marks is done where it stays
  module _ {here q : Step} (h : StandsAt p k here) (e : q ≡ step_at p k) where
    pub stays_done : done (steps_of p) (at_step k) ≡ (eqb q.place here.place && eqb q.sum here.sum)
    unfolding done awaited moves
    stays_done = rw (e, held_after p o.held k o.before_end, h.state_is) (go _ _)
      where
        go : (x y : Bool) → (not (not x && true) && not (not y && true)) ≡ (x && y)
        go true true = refl
        go true false = refl
        go false y = refl

    pub still_stands : (eqb q.place here.place && eqb q.sum here.sum) ≡ true → StandsAt p (k + 1) here
    still_stands f =
        let (g, i) = (and-eq-true_iff _ _).0 f in
        let (j, l) : (q.place ≡ here.place) × (q.sum ≡ here.sum) = (eqb-true _ _ g, eqb-true _ _ i) in
        record { held = o.held; state_is = rw (add-one k, ← j, ← l, e) (held_after p o.held k o.before_end) }

module _ (es : List ℕ) where
  pub before_first : (k : ℕ) → k ≡ 0 → 0 ≡ entry_before es k
  before_first zero e = refl
  before_first (suc k) e = absurd (omega arith)

  pub before_later : (k : ℕ) → (k ≡ 0 → ⊥) → get_or es (k - 1) 0 ≡ entry_before es k
  before_later zero h = absurd (h refl)
  before_later (suc k) h = let e : suc k - 1 ≡ k = omega arith in rw e

-- the area with fewer entries decides
pub fewer_decides : (p : Plan) {a b : ℕ} → a ≡ length (entries 2 p.places.now) → b ≡ length (entries 4 p.sums.now)
    → leb p.count (min a b) ≡ holds_count p.count p.places.now p.sums.now
unfolding holds_count
fewer_decides p {a} {b} e f = rw (← e, ← f) (go (leb p.count a) (leb p.count b) refl refl)
  where
    go : (x y : Bool) → leb p.count a ≡ x → leb p.count b ≡ y → leb p.count (min a b) ≡ (leb p.count a && leb p.count b)
    go true true g h = let (l, m) : (p.count ≤ a) × (p.count ≤ b) = (leb-true _ _ g, leb-true _ _ h) in rw (g, h) (le-leb _ _ (omega arith))
    go false y g h = let l : a < p.count = leb-false _ _ g in rw g (lt-leb _ _ (omega arith))
    go true false g h = let l : b < p.count = leb-false _ _ h in rw (g, h) (lt-leb _ _ (omega arith))

mark_passed : (s : Session) (side : Side) → (mark s side).passed ≡ s.passed
mark_passed s Delivery = refl
mark_passed s Payment = refl

-- ---- what a report answers

module _ (p : Plan) (s : Session) (side : Side) (n : ℕ) where
  module _ {r : Bool} (e : r ≡ holds_count p.count p.places.now p.sums.now) where
    pub report_short : r ≡ false → report_in p.count p.places.now p.sums.now s side n ≡ refused 8
    unfolding report_in
    report_short h = rw (← e, h)

    module _ (h : r ≡ true) {q : Bool} (f : q ≡ finished_by p.count s) where
      pub report_finished : q ≡ true → report_in p.count p.places.now p.sums.now s side n ≡ refused 11
      unfolding report_in report_on
      report_finished i = rw (← e, h, held_length p (count_held p e h), ← f, i)

      pub report_open : q ≡ false → Open p s.passed
      report_open i = record { held = count_held p e h; before_end = leb-false _ _ (sym f ∙ i) }

  -- where a step is open
  module _ (o : Open p s.passed) {r : Bool} (e : r ≡ fits (steps_of p) s side n) where
    pub report_unfit : r ≡ false → report_in p.count p.places.now p.sums.now s side n ≡ refused 10
    unfolding report_in report_on
    report_unfit h = rw (held_count p o.held, held_length p o.held, lt-leb p.count s.passed o.before_end, ← e, h)

    report_taken : r ≡ true
        → report_in p.count p.places.now p.sums.now s side n ≡ ok (settle (steps_of p) (p.count - (mark s side).passed) (mark s side))
    unfolding report_in report_on
    report_taken h =
        rw (held_count p o.held, held_length p o.held, lt-leb p.count s.passed o.before_end, ← e, h) refl

    -- the step stays open, or is passed
    module _ (h : r ≡ true) {m : Session} (f : m ≡ mark s side) {q : Bool} (g : q ≡ done (steps_of p) m) where
      marked_done : done (steps_of p) (mark s side) ≡ q
      marked_done = rw (← f) (sym g)

      pub report_marked : q ≡ false → report_in p.count p.places.now p.sums.now s side n ≡ ok m
      report_marked i = report_taken h ∙ ap ok (settle_stays (steps_of p) (mark s side) _ (marked_done ∙ i) ∙ sym f)

      pub report_passed : q ≡ true → {t : Session} → t ≡ settle (steps_of p) (p.count - (m.passed + 1)) (at_step (m.passed + 1))
          → report_in p.count p.places.now p.sums.now s side n ≡ ok t
      report_passed i l =
          let b : (mark s side).passed < p.count = rw (mark_passed s side) o.before_end in
          report_taken h ∙ ap ok (sym (settle_next (steps_of p) (mark s side) p.count _ refl b (marked_done ∙ i)) ∙ sym (rw f at l))

      pub marked_open : Open p m.passed
      marked_open = rw (f, mark_passed s side) o
