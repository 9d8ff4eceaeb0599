-- The plans of a deal along one order with fewest steps, payments, deliveries or moves of both kinds: they exist wherever the deal is possible,
-- they are plans, none is longer than 2U + 1 steps, and no plan has fewer. Assumes nothing.
pub mod Examples
use mathlib.Core.Path.{◌≡◌, refl, sym, ap, ap₂, ◌∙◌}
use mathlib.Core.Logic.{◌⊎◌, inl, inr, ⊎_elim, dite}
use mathlib.Core.List.{List, [], ◌∷◌}
use Prim.Native.Nat.{ℕ, ◌+◌, ◌*◌, ◌≤◌, ◌<◌}
use native.Mathlib.Nat.{le_antisymm}
use native.Mathlib.Decide.{dec_le}
use native.Mathlib.Omega.{arith}
use lib.Dec.{leb}
use lib.ListN.{length}
use borrow.Author.Tests.{le-leb, lt-leb}
use Rattle.exchange.specs.Deal.{Deal, State, Plan, start, end}
use Rattle.exchange.specs.Rule.{ruled}
use Rattle.exchange.specs.Work.{WorkStep, WorkPlan, Rising, work_of}
use Rattle.exchange.specs.Arrival.{Arrives}
use Rattle.exchange.specs.Possible.{Possible}
use Rattle.exchange.specs.Objectives.{rises, count, pays, delivers, moves, delivery_only, payment_only, opening, Opens, smaller, PlanFor, counted, Least}
use Rattle.exchange.specs.declared.Objective.{Objective}
use Rattle.exchange.proofs.Bridge.{bridge, start_covered}
use Rattle.exchange.proofs.GivenOrder.{on_line, to_work, ruled_plan, ruled_least, ruled_short}
use Rattle.exchange.proofs.GivenOrder.Run.{path, First}
use Rattle.exchange.proofs.GivenOrder.Lead.{path_chain}
use Rattle.exchange.proofs.GivenOrder.Greedy.{OnLine, Stands, greedy, greedy_leads}
use Rattle.exchange.proofs.GivenOrder.Count.{rises_not}
use Rattle.exchange.proofs.GivenOrder.Starts as starts
use Rattle.exchange.proofs.GivenOrder.Starts.{Single, Within, delivery, payment}
use Rattle.exchange.proofs.GivenOrder.Opening.{opening_chain, opening_ends, opening_count, opening_length, opening_start}
use Rattle.exchange.proofs.GivenOrder.RuleLaws.{rule_greedy, ruled_path, ruled_length, arrives_first, first_arrives}

pub delivery_is : (d : Deal) → delivery_only d ≡ delivery (work_of d)
unfolding delivery_only
delivery_is d = rw (rule_greedy d start)

pub payment_is : (d : Deal) → payment_only d ≡ payment (work_of d)
unfolding payment_only
payment_is d = rw (rule_greedy d start)

-- what holds of the list with fewer moves, of the first on a tie, holds of the smaller
smaller_by : (P : List State → Type 0) (xs ys : List State) → (count moves start xs ≤ count moves start ys → P xs)
    → (count moves start ys < count moves start xs → P ys) → P (smaller xs ys)
unfolding smaller
smaller_by P xs ys first second =
    dite
    (dec_le (count moves start xs) (count moves start ys))
    (λ h. rw (le-leb (count moves start xs) (count moves start ys) h) (first h))
    (λ (h : count moves start xs ≤ count moves start ys → ⊥).
    let less : count moves start ys < count moves start xs = omega arith in
    rw (lt-leb (count moves start xs) (count moves start ys) less) (second less))

smaller_least : (xs ys : List State)
    → (count moves start (smaller xs ys) ≤ count moves start xs) × (count moves start (smaller xs ys) ≤ count moves start ys)
smaller_least xs ys =
    smaller_by (λ zs. (count moves start zs ≤ count moves start xs) × (count moves start zs ≤ count moves start ys)) xs ys
    (λ h. omega arith)
    (λ (h : count moves start ys < count moves start xs). omega arith)

pub count_steps : (s : State) (xs : List State) → count (counted Objective.Steps) s xs ≡ length xs
count_steps s [] = refl
count_steps s (x ∷ xs) = omega (arith, count_steps x xs)

-- with no first step, the rule's steps from the start to the first arrival
module _ (d : Deal) (xs : List State) (v : Opens d start xs) where
  from_start : xs ≡ ruled d start v.ruled_steps
  from_start = v.steps_are ∙ opening_start (ruled d start v.ruled_steps)

  so_many : length xs ≡ v.ruled_steps
  so_many = ap length from_start ∙ ruled_length d start v.ruled_steps

  pub steps_ruled : xs ≡ ruled d start (length xs)
  steps_ruled = from_start ∙ ap (ruled d start) (sym so_many)

  pub steps_arrive : Arrives d start (length xs)
  steps_arrive = rw so_many v.arrives

none : rises 0 0 ≡ 0
none = rises_not 0 0 (omega arith)

-- a deal along one order that is possible
module _ (d : Deal) (r : Rising d) (counts : (a b : ℕ) → d.holds a b ≡ leb a b) (p : Possible d) where
  o : OnLine (work_of d)
  o = on_line d r counts

  -- the lower bound of place 0 is covered by nothing paid
  low : (work_of d).floor 0 ≤ 0
  low = start_covered d r p.start_safe

  -- ---- a first step to f, and then the rule

  -- it arrives
  pub from_exists : (f : State) → WorkStep (work_of d) start f → (n : ℕ) × Arrives d f n
  from_exists f step =
      let n = starts.opens o low f (starts.step_stands o low f step) (to_work d r counts p) in
      (n.0, first_arrives d f n.0 n.1)

  module _ (f : State) (s : Single (work_of d) f) where
    stands : Stands (work_of d) f
    stands = starts.step_stands o low f s.step

    exists : (xs : List State) × Opens d f xs
    exists = let n = from_exists f s.step in (opening f (ruled d f n.0), record { ruled_steps = n.0; arrives = n.1; steps_are = refl })

    module _ (xs : List State) (v : Opens d f xs) where
      is_first : First (greedy (work_of d)) f (end d) v.ruled_steps
      is_first = arrives_first d f v.ruled_steps v.arrives

      is_length : length xs ≡ moves start f + v.ruled_steps
      is_length = rw (v.steps_are, opening_length f (ruled d f v.ruled_steps) s.one, ruled_length d f v.ruled_steps)

      is_count : (measure : State → State → ℕ) → measure start start ≡ 0
          → count measure start xs ≡ measure start f + count measure f (path (greedy (work_of d)) f v.ruled_steps)
      is_count measure z = rw (v.steps_are, opening_count f (ruled d f v.ruled_steps) measure z, ruled_path d f v.ruled_steps)

      -- each step is one move
      one_move_each : count moves start xs ≡ length xs
      one_move_each = omega (arith, is_count moves (omega (arith, none)), s.singly v.ruled_steps is_first, is_length)

      -- what is least against all lists of steps of the working form, is against all plans
      is_least : (measure : State → State → ℕ) → ((ys : List State) → WorkPlan (work_of d) ys → count measure start xs ≤ count measure start ys)
          → Least measure d xs
      is_least measure least =
          let steps = path_chain (greedy_leads o) f stands v.ruled_steps in
          let plan : WorkPlan (work_of d) (opening f (ruled d f v.ruled_steps)) =
          record {
            steps = opening_chain f _ (WorkStep (work_of d)) s.step (rw (ruled_path d f v.ruled_steps) steps);
            arrives = opening_ends f _ ∙ v.arrives.there;
          } in
          record {
            plan = rw v.steps_are ((bridge d r _).1 (p.start_safe, plan));
            short = omega (arith, is_length, s.short (to_work d r counts p) v.ruled_steps is_first);
            least = λ ys q. least ys ((bridge d r ys).0 q).1;
          }

  -- ---- the two starts

  delivery_start : Single (work_of d) (delivery (work_of d))
  delivery_start = starts.delivery_single o low

  payment_start : Single (work_of d) (payment (work_of d))
  payment_start = starts.payment_single o low

  -- for planners
  pub delivery_first : Single (work_of d) (delivery_only d)
  delivery_first = rw (delivery_is d) delivery_start

  pub payment_first : Single (work_of d) (payment_only d)
  payment_first = rw (payment_is d) payment_start

  pub delivery_start_exists : (xs : List State) × Opens d (delivery_only d) xs
  delivery_start_exists = rw (delivery_is d) (exists (delivery (work_of d)) delivery_start)

  pub payment_start_exists : (xs : List State) × Opens d (payment_only d) xs
  payment_start_exists = rw (payment_is d) (exists (payment (work_of d)) payment_start)

  module _ (xs : List State) (opens : Opens d (delivery_only d) xs) where
    after_delivery : Opens d (delivery (work_of d)) xs
    after_delivery = rw (delivery_is d) at opens

    -- "fewest payments (start with a delivery only)"
    pub fewest_payments : Least pays d xs
    fewest_payments =
        let f = delivery (work_of d) in
        let v = after_delivery in
        let own = is_count f delivery_start xs v pays none in
        is_least f delivery_start xs v pays
        (λ ys y. omega (arith, none, starts.fewest_payments o low ys y.steps y.arrives v.ruled_steps (is_first f delivery_start xs v)))

    pub delivery_start_moves : count moves start xs ≡ length xs
    delivery_start_moves = one_move_each (delivery (work_of d)) delivery_start xs after_delivery

    delivery_start_within : (m : ℕ) → Within (work_of d) (delivery (work_of d)) m → count moves start xs ≤ m
    delivery_start_within m h =
        let f = delivery (work_of d) in
        let v = after_delivery in
        omega (arith, delivery_start_moves, is_length f delivery_start xs v, h v.ruled_steps (is_first f delivery_start xs v))

  module _ (xs : List State) (opens : Opens d (payment_only d) xs) where
    after_payment : Opens d (payment (work_of d)) xs
    after_payment = rw (payment_is d) at opens

    -- "fewest deliveries (start with a payment only)"
    pub fewest_deliveries : Least delivers d xs
    fewest_deliveries =
        let f = payment (work_of d) in
        let v = after_payment in
        let own = is_count f payment_start xs v delivers none in
        is_least f payment_start xs v delivers
        (λ ys y. omega (arith, none, starts.fewest_deliveries o low ys y.steps y.arrives v.ruled_steps (is_first f payment_start xs v)))

    pub payment_start_moves : count moves start xs ≡ length xs
    payment_start_moves = one_move_each (payment (work_of d)) payment_start xs after_payment

    payment_start_within : (m : ℕ) → Within (work_of d) (payment (work_of d)) m → count moves start xs ≤ m
    payment_start_within m h =
        let f = payment (work_of d) in
        let v = after_payment in
        omega (arith, payment_start_moves, is_length f payment_start xs v, h v.ruled_steps (is_first f payment_start xs v))

  -- "fewest moves of both kinds (the smaller of the two, the payment start on a tie)"
  module _ (xs ys : List State) (v : Opens d (payment_only d) xs) (u : Opens d (delivery_only d) ys) where
    -- no plan has fewer moves than both
    one_within : (zs : List State) → Plan d zs
        → (count moves start ys ≤ count moves start zs) ⊎ (count moves start xs ≤ count moves start zs)
    one_within zs q =
        let z = ((bridge d r zs).0 q).1 in
        ⊎_elim
        (λ k. inl (delivery_start_within ys u _ k))
        (λ k. inr (payment_start_within xs v _ k))
        (starts.fewest_moves o low zs z.steps z.arrives)

    pub fewest_moves : Least moves d (smaller xs ys)
    fewest_moves =
        let pay = fewest_deliveries xs v in
        let del = fewest_payments ys u in
        let both = smaller_least xs ys in
        record {
          plan = smaller_by (Plan d) xs ys (λ _. pay.plan) (λ _. del.plan);
          short = smaller_by (λ zs. length zs ≤ 2 * d.last + 1) xs ys (λ _. pay.short) (λ _. del.short);
          least = λ zs q.
              ⊎_elim
              (λ (k : count moves start ys ≤ count moves start zs). omega arith)
              (λ (k : count moves start xs ≤ count moves start zs). omega arith)
              (one_within zs q);
        }

  -- ---- the plan for each aim

  -- the rule from the start: fewest steps
  steps_exist : (xs : List State) × Opens d start xs
  steps_exist =
      let n = from_exists start (starts.start_step o low) in
      (opening start (ruled d start n.0), record { ruled_steps = n.0; arrives = n.1; steps_are = refl })

  fewest_steps : (xs : List State) → Opens d start xs → Least (counted Objective.Steps) d xs
  fewest_steps xs v =
      let n = length xs in
      let e = steps_ruled d xs v in
      let a = steps_arrive d xs v in
      record {
        plan = rw e (ruled_plan d r counts p.start_safe n a.there);
        short = ruled_short d r counts p.start_safe n a;
        least = λ ys q. rw (count_steps start xs, count_steps start ys) (ruled_least d r counts n a ys q);
      }

  pub plan_for_exists : (aim : Objective) → (xs : List State) × PlanFor aim d xs
  plan_for_exists Objective.Steps = steps_exist
  plan_for_exists Objective.Payments = delivery_start_exists
  plan_for_exists Objective.Deliveries = payment_start_exists
  plan_for_exists Objective.Moves =
      let xs = payment_start_exists in
      let ys = delivery_start_exists in
      (smaller xs.0 ys.0, record { paying = xs.0; delivering = ys.0; payment_start = xs.1; delivery_start = ys.1; steps_are = refl })

  pub plan_for_least : (aim : Objective) (xs : List State) → PlanFor aim d xs → Least (counted aim) d xs
  plan_for_least Objective.Steps xs s = fewest_steps xs s
  plan_for_least Objective.Payments xs s = fewest_payments xs s
  plan_for_least Objective.Deliveries xs s = fewest_deliveries xs s
  plan_for_least Objective.Moves xs s = rw s.steps_are (fewest_moves _ _ s.payment_start s.delivery_start)

-- ---- each aim has one plan

arrives_once : (d : Deal) (f : State) (m n : ℕ) → Arrives d f m → Arrives d f n → m ≤ n
arrives_once d f m n a b = dite (dec_le m n) (λ h. h) (λ (h : m ≤ n → ⊥). absurd (a.not_before n (omega arith) b.there))

pub opens_one : (d : Deal) (f : State) (xs ys : List State) → Opens d f xs → Opens d f ys → xs ≡ ys
opens_one d f xs ys v u =
    let e = le_antisymm (arrives_once d f _ _ v.arrives u.arrives) (arrives_once d f _ _ u.arrives v.arrives) in
    v.steps_are ∙ ap (λ (n : ℕ). opening f (ruled d f n)) e ∙ sym u.steps_are

pub plan_for_one : (d : Deal) (aim : Objective) (xs ys : List State) → PlanFor aim d xs → PlanFor aim d ys → xs ≡ ys
plan_for_one d Objective.Steps xs ys v u = opens_one d _ xs ys v u
plan_for_one d Objective.Payments xs ys v u = opens_one d _ xs ys v u
plan_for_one d Objective.Deliveries xs ys v u = opens_one d _ xs ys v u
plan_for_one d Objective.Moves xs ys v u =
    v.steps_are
    ∙ ap₂ smaller (opens_one d _ _ _ v.payment_start u.payment_start) (opens_one d _ _ _ v.delivery_start u.delivery_start)
    ∙ sym u.steps_are
