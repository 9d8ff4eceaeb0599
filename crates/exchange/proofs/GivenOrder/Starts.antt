-- The rule after a first step, in the working form. If that step only delivers, or only pays, the rule then does the two in turn: so it makes a
-- payment, or a delivery, in every other step, and no list of steps makes fewer. Assumes nothing.
use mathlib.Core.Path.{◌≡◌, refl, ap, ◌∙◌}
use mathlib.Core.Logic.{◌⊎◌, inl, inr, dite}
use mathlib.Core.List.{List, [], ◌∷◌}
use Prim.Native.Nat.{ℕ, suc, ◌+◌, ◌*◌, ◌-◌, ◌≤◌, ◌<◌}
use native.Mathlib.Nat.{le_refl, le_trans, le_antisymm}
use native.Mathlib.Decide.{dec_lt}
use native.Mathlib.Omega.{arith}
use Rattle.exchange.specs.Deal.{State, Behind, start, ends}
use Rattle.exchange.specs.Work.{Work, WorkStep, WorkSteps}
use Rattle.exchange.specs.Objectives.{count, pays, delivers, moves}
use Rattle.exchange.proofs.GivenOrder.Run.{path, ends_path, state_eq, First, first, first_least}
use Rattle.exchange.proofs.GivenOrder.Lead.{behind_refl, path_chain}
use Rattle.exchange.proofs.GivenOrder.Farthest.{farthest, farthest_is}
use Rattle.exchange.proofs.GivenOrder.Greedy.{OnLine, Stands, goal, greedy, greedy_leads, cap_up}
use Rattle.exchange.proofs.GivenOrder.Gaps.{NoGap, arrives_within}
use Rattle.exchange.proofs.GivenOrder.Count.{Events, within, rises_more, rises_not, rises_most, rises_none, count_sum, every_other_x, every_other_y}

-- nothing more can be delivered
abbrev pub Full : Work → State → Type 0
Full w s = farthest w.floor s.paid w.last ≡ s.place

-- nothing more can be paid
abbrev pub Spent : Work → State → Type 0
Spent w s = w.cap s.place ≡ s.paid

-- a first step that only delivers, and one that only pays
abbrev pub delivery : Work → State
delivery w = record { place = farthest w.floor 0 w.last; paid = 0 }

abbrev pub payment : Work → State
payment w = record { place = 0; paid = w.cap 0 }

-- after a first step to f the rule arrives within m moves, that step counted
abbrev pub Within : Work → State → ℕ → Type 0
Within w f m = (n : ℕ) → First (greedy w) f (goal w) n → moves start f + n ≤ m

-- one of the two starts does
abbrev pub OneWithin : Work → ℕ → Type 0
OneWithin w m = Within w (delivery w) m ⊎ Within w (payment w) m

-- a first step of one move, after which each step of the rule is one move; together no more than 2U + 1
pub record Single (w : Work) (f : State) : Type 0 where
  pub step : WorkStep w start f
  pub one : moves start f ≤ 1
  pub singly : (n : ℕ) → First (greedy w) f (goal w) n → count moves f (path (greedy w) f n) ≡ n
  pub short : NoGap w → Within w f (2 * w.last + 1)

module _ {w : Work} (o : OnLine w) where
  -- ---- deliveries and payments in turn

  full_spent : (s : State) → Full w s → Spent w (greedy w s)
  full_spent s h = ap w.cap h

  spent_full : (s : State) → Spent w s → Full w (greedy w s)
  spent_full s h = ap (λ (p : ℕ). farthest w.floor p w.last) h

  full_delivers : (s : State) → Full w s → delivers s (greedy w s) ≡ 0
  full_delivers s h = rises_not _ _ (omega arith)

  spent_pays : (s : State) → Spent w s → pays s (greedy w s) ≡ 0
  spent_pays s h = rises_not _ _ (omega arith)

  one_payment : (s : State) → pays s (greedy w s) ≤ 1
  one_payment s = rises_most _ _

  one_delivery : (s : State) → delivers s (greedy w s) ≤ 1
  one_delivery s = rises_most _ _

  module _ (s : State) (n : ℕ) where
    pub full_payments : Full w s → 2 * count pays s (path (greedy w) s n) ≤ n + 1
    full_payments = every_other_x (greedy w) pays (Full w) (Spent w) full_spent spent_full one_payment spent_pays n s

    pub spent_deliveries : Spent w s → 2 * count delivers s (path (greedy w) s n) ≤ n + 1
    spent_deliveries = every_other_x (greedy w) delivers (Spent w) (Full w) spent_full full_spent one_delivery full_delivers n s

    full_moves : Full w s → count moves s (path (greedy w) s n) ≤ n
    full_moves h =
        let p = full_payments h in
        let q = every_other_y (greedy w) delivers (Spent w) (Full w) spent_full full_spent one_delivery full_delivers n s h in
        rw (count_sum pays delivers) (omega arith)

    spent_moves : Spent w s → count moves s (path (greedy w) s n) ≤ n
    spent_moves h =
        let p = spent_deliveries h in
        let q = every_other_y (greedy w) pays (Full w) (Spent w) full_spent spent_full one_payment spent_pays n s h in
        rw (count_sum pays delivers) (omega arith)

  -- ---- the events of a list of steps

  keeps : (s : State) → Stands w s → Stands w (greedy w s)
  keeps = (greedy_leads o).keeps

  -- a step that pays nothing stays behind a state where nothing more can be delivered
  payment_events : Events (greedy_leads o) pays (λ u. Stands w u × Full w u) 2
  payment_events =
      record {
        some = omega arith;
        stands = λ u h. h.0;
        again = λ u h. (keeps _ (keeps u h.0), spent_full _ (full_spent u h.1));
        quiet = λ s t u h b r e.
            let full = h.1 in
            let far = (farthest_is w.floor u.paid w.last).greatest t.place r.in_deal (le_trans r.covered b.paid) in
            record { place = omega arith; paid = le_trans (rises_none _ _ e) b.paid };
      }

  -- a step that delivers nothing stays behind a state where nothing more can be paid
  delivery_events : Events (greedy_leads o) delivers (λ u. Stands w u × Spent w u) 2
  delivery_events =
      record {
        some = omega arith;
        stands = λ u h. h.0;
        again = λ u h. (keeps _ (keeps u h.0), full_spent _ (spent_full u h.1));
        quiet = λ s t u h b r e.
            let spent = h.1 in
            let most = cap_up o s.place u.place b.place h.0.in_deal in
            record { place = le_trans (rises_none _ _ e) b.place; paid = omega (arith, r.afforded) };
      }

  -- a step without a move stays where it is
  move_events : Events (greedy_leads o) moves (Stands w) 1
  move_events =
      record {
        some = omega arith;
        stands = λ u h. h;
        again = keeps;
        quiet = λ s t u h b r e.
            record {
              place = le_trans (rises_none _ _ (omega (arith, e))) b.place;
              paid = le_trans (rises_none _ _ (omega (arith, e))) b.paid;
            };
      }

  module _ (low : w.floor 0 ≤ 0) where
    -- ---- first steps

    -- no step at all
    pub start_step : WorkStep w start start
    start_step = record { in_deal = omega arith; delivers = o.lawful.holds_start 0; pays = omega arith; covered = low; afforded = omega arith }

    delivery_step : WorkStep w start (delivery w)
    delivery_step =
        let far = farthest_is w.floor 0 w.last in
        record { in_deal = far.within; delivers = o.lawful.holds_start _; pays = omega arith; covered = far.covered low; afforded = omega arith }

    payment_step : WorkStep w start (payment w)
    payment_step =
        record { in_deal = omega arith; delivers = o.lawful.holds_start 0; pays = omega arith; covered = low; afforded = le_refl _ }

    -- a first step leads to a state that stands
    pub step_stands : (f : State) → WorkStep w start f → Stands w f
    step_stands f r =
        let most = cap_up o 0 f.place (omega arith) r.in_deal in
        record { in_deal = r.in_deal; covered = omega (arith, r.covered); afforded = omega (arith, r.afforded) }

    -- ---- fewest payments, and fewest deliveries

    module _ (xs : List State) (steps : WorkSteps w start xs) (there : ends start xs ≡ goal w) where
      pub fewest_payments : (n : ℕ) → First (greedy w) (delivery w) (goal w) n
          → count pays (delivery w) (path (greedy w) (delivery w) n) ≤ count pays start xs
      fewest_payments n a =
          let u = delivery w in
          let b : Behind start u = record { place = omega arith; paid = omega arith } in
          let most = within (greedy_leads o) payment_events start u (step_stands u delivery_step, refl) b xs steps there n a in
          let ours = full_payments u n refl in
          omega arith

      pub fewest_deliveries : (n : ℕ) → First (greedy w) (payment w) (goal w) n
          → count delivers (payment w) (path (greedy w) (payment w) n) ≤ count delivers start xs
      fewest_deliveries n a =
          let u = payment w in
          let b : Behind start u = record { place = omega arith; paid = omega arith } in
          let most = within (greedy_leads o) delivery_events start u (step_stands u payment_step, refl) b xs steps there n a in
          let ours = spent_deliveries u n refl in
          omega arith

    -- ---- fewest moves

    -- the first step from the start that moves anything: where it delivers, its delivery alone is behind that of the delivery start, and its
    -- payment comes after it; else it is behind the payment start
    lead_delivering : (t : State) (xs : List State) → WorkSteps w start (t ∷ xs) → ends t xs ≡ goal w → 0 < t.place
        → Within w (delivery w) (count moves start (t ∷ xs))
    lead_delivering t xs steps there h n a =
        let u = delivery w in
        let r = steps.0 in
        let half : State = record { place = t.place; paid = 0 } in
        let most = cap_up o 0 t.place (omega arith) r.in_deal in
        let rest : WorkStep w half t =
        record {
          in_deal = r.in_deal;
          delivers = o.lawful.holds_self _;
          pays = omega arith;
          covered = r.covered;
          afforded = le_trans r.afforded most;
        } in
        let b : Behind half u =
        record { place = (farthest_is w.floor 0 w.last).greatest t.place r.in_deal r.covered; paid = omega arith } in
        let most_steps = within (greedy_leads o) move_events half u (step_stands u delivery_step) b (t ∷ xs) (rest, steps.1) there n a in
        let one = rises_most 0 u.place in
        let none = rises_not 0 0 (omega arith) in
        let same = rises_not t.place t.place (le_refl _) in
        let more = rises_more 0 t.place h in
        omega arith

    lead_paying : (t : State) (xs : List State) → WorkSteps w start (t ∷ xs) → ends t xs ≡ goal w → t.place ≡ 0 → 0 < t.paid
        → Within w (payment w) (count moves start (t ∷ xs))
    lead_paying t xs steps there e h n a =
        let u = payment w in
        let b : Behind t u = record { place = omega arith; paid = steps.0.afforded } in
        let most_steps = within (greedy_leads o) move_events t u (step_stands u payment_step) b xs steps.1 there n a in
        let one = rises_most 0 u.paid in
        let none = rises_not 0 0 (omega arith) in
        let more = rises_more 0 t.paid h in
        omega arith

    -- no list of steps makes fewer moves than both starts
    pub fewest_moves : (xs : List State) → WorkSteps w start xs → ends start xs ≡ goal w → OneWithin w (count moves start xs)
    fewest_moves [] steps there = inl λ n a.
        let far = (farthest_is w.floor 0 w.last).within in
        let l : 0 ≡ w.last = ap (λ (u : State). u.place) there in
        let p : 0 ≡ w.price = ap (λ (u : State). u.paid) there in
        let here = first_least (greedy w) a 0 (state_eq (omega arith) p) in
        let none = rises_not 0 0 (omega arith) in
        let still = rises_not 0 (delivery w).place (omega arith) in
        omega arith
    fewest_moves (t ∷ xs) steps there =
        go (dec_lt 0 t.place) (dec_lt 0 t.paid)
        (λ e. fewest_moves xs (rw (← e) steps.1) (rw (← e) there))
      where
        go : Dec (0 < t.place) → Dec (0 < t.paid) → (t ≡ start → OneWithin w (count moves start xs)) → OneWithin w (count moves start (t ∷ xs))
        go (yes h) p rest = inl (lead_delivering t xs steps there h)
        go (no h) (yes k) rest = inr (lead_paying t xs steps there (omega arith) k)
        go (no h) (no k) rest = rw same (rest e)
          where
            e : t ≡ start
            e = state_eq (omega arith) (omega arith)

            same : count moves start (t ∷ xs) ≡ count moves start xs
            same = let none = rises_not 0 0 (omega arith) in rw e (omega arith)

    -- ---- the rule after a first step that only delivers or only pays

    module _ (f : State) (g : Stands w f) where
      path_moves : (n : ℕ) → First (greedy w) f (goal w) n → n ≤ count moves f (path (greedy w) f n)
      path_moves n a =
          let steps = path_chain (greedy_leads o) f g n in
          let most = within (greedy_leads o) move_events f f g (behind_refl f) (path (greedy w) f n) steps (ends_path (greedy w) f n ∙ a.there) n a in
          omega arith

      -- with no gap it arrives
      pub opens : NoGap w → (n : ℕ) × First (greedy w) f (goal w) n
      opens gaps = let m = 2 * (w.last - f.place) + 1 in first (greedy w) f (goal w) m (arrives_within o gaps f g m (le_refl m))

      stands_short : NoGap w → (n : ℕ) → First (greedy w) f (goal w) n → n ≤ 2 * (w.last - f.place) + 1
      stands_short gaps n a = let m = 2 * (w.last - f.place) + 1 in first_least (greedy w) a m (arrives_within o gaps f g m (le_refl m))

    pub delivery_single : Single w (delivery w)
    delivery_single =
        let u = delivery w in
        let g = step_stands u delivery_step in
        let none = rises_not 0 0 (omega arith) in
        record {
          step = delivery_step;
          one = omega (arith, rises_most 0 u.place);
          singly = λ n a. le_antisymm (full_moves u n refl) (path_moves u g n a);
          short = λ gaps n a.
              let most = stands_short u g gaps n a in
              dite (dec_lt 0 u.place)
              (λ (h : 0 < u.place). omega (arith, rises_most 0 u.place, g.in_deal))
              (λ (h : 0 < u.place → ⊥). omega (arith, rises_not 0 u.place (omega arith)));
        }

    pub payment_single : Single w (payment w)
    payment_single =
        let u = payment w in
        let g = step_stands u payment_step in
        let t = keeps u g in
        let none = rises_not 0 0 (omega arith) in
        record {
          step = payment_step;
          one = omega (arith, rises_most 0 u.paid);
          singly = λ n a. le_antisymm (spent_moves u n refl) (path_moves u g n a);
          short = λ gaps n a.
              let one = rises_most 0 u.paid in
              dite (dec_lt 0 w.last)
              (λ (h : 0 < w.last).
              let far = (farthest_is w.floor u.paid w.last).greatest 1 h (gaps 0 h) in
              let m = 2 * (w.last - (greedy w u).place) + 1 in
              let most = first_least (greedy w) a (suc m) (arrives_within o gaps (greedy w u) t m (le_refl m)) in
              omega (arith, t.in_deal))
              (λ (h : 0 < w.last → ⊥).
              let e : 0 ≡ w.last = omega arith in
              let most = first_least (greedy w) a 0 (state_eq e (ap w.cap e ∙ o.lawful.cap_last)) in
              omega arith);
        }
