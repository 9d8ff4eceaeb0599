-- Two outcomes that keep the promise of planning are the same: one answer, and one content of every area. Assumes nothing.
use mathlib.Core.Path.{◌≡◌, sym, ap, ap₂, ◌∙◌}
use mathlib.Core.Bool.{true}
use mathlib.Core.List.{List, ◌++◌, map}
use Prim.Native.Nat.{ℕ, ◌≤◌}
use native.Mathlib.Omega.{arith}
use lib.ListN.{length, take, drop, take-append-drop}
use Rattle.area.proofs.ByteLaws.{filled_same}
use Rattle.contract.specs.Res.{Res, refused, ok}
use Rattle.contract.specs.Contract.{Contract}
use Rattle.contract.specs.Valid.{Valid}
use Rattle.contract.specs.declared.Form.{Form}
use Rattle.contract.specs.declared.Form.TheVariants.{Ladder, UnitPrices, Table}
use Rattle.exchange.specs.Deal.{Deal, State, start}
use Rattle.exchange.specs.PlanIn.{plan_in}
use Rattle.exchange.specs.Rule.{ruled}
use Rattle.exchange.specs.declared.Objective.{Objective}
use Rattle.exchange.proofs.Objectives.{plan_for_one}
use Rattle.exchange.proofs.TablePlan.FewestLaws.{earliest_unique}
use Rattle.planning.specs.Areas.{Areas, room_for}
use Rattle.planning.specs.Deals.{NoPlan}
use Rattle.planning.specs.Order.{order_in, deal_by}
use Rattle.planning.specs.Promise.{ByRule, StepsGo, Ours, OursFor, Claimed, SuccessFor, PlansFor}
use Rattle.planning.specs.OneAnswer.{ByteAreas, Outcome, Keeps}
use Rattle.planning.proofs.OrderBytes.{order_of, order_same}
use Rattle.planning.proofs.Outcome.{room, claimed_plan}

-- ---- our plan of a deal

rule_same : (d : Deal) (xs ys : List State) → length xs ≡ length ys → ByRule d xs → ByRule d ys → xs ≡ ys
rule_same d xs ys l a b = a.rule_steps ∙ ap (ruled d start) l ∙ sym b.rule_steps

go_same : (f : Form) (d : Deal) (xs ys : List State) → length xs ≡ length ys → StepsGo f d xs → StepsGo f d ys → xs ≡ ys
go_same Ladder d xs ys l a b = rule_same d xs ys l a b
go_same UnitPrices d xs ys l a b = rule_same d xs ys l a b
go_same Table d xs ys l a b = earliest_unique d xs ys a b

module _ (d : Deal) (n m : ℕ) (xs ys : List State) where
  ours_same : (f : Form) → Ours f d n xs → Ours f d m ys → (n ≡ m) × (xs ≡ ys)
  ours_same f a b =
      let e : n ≡ m = omega (arith, a.least ys b.plan, b.least xs a.plan, a.steps, b.steps) in
      (e, go_same f d xs ys (omega (arith, e, a.steps, b.steps)) a.steps_go b.steps_go)

  for_same : (aim : Objective) → OursFor aim d n xs → OursFor aim d m ys → (n ≡ m) × (xs ≡ ys)
  for_same aim a b =
      let e : xs ≡ ys = plan_for_one d aim xs ys a.plan_for b.plan_for in
      (a.steps ∙ ap length e ∙ sym b.steps, e)

  -- there is only one for each objective
  pub claimed_same : (aim : Objective) (f : Form) → Claimed aim f d n xs → Claimed aim f d m ys → (n ≡ m) × (xs ≡ ys)
  claimed_same Objective.Steps f a b = ours_same f a b
  claimed_same Objective.Payments f a b = for_same Objective.Payments a b
  claimed_same Objective.Deliveries f a b = for_same Objective.Deliveries a b
  claimed_same Objective.Moves f a b = for_same Objective.Moves a b

-- ---- the areas

areas_same : {a b : Areas} → a.places ≡ b.places → a.sums ≡ b.sums → a.order ≡ b.order → a.work ≡ b.work → a ≡ b
areas_same p s o w = λ i. record { places = p i; sums = s i; order = o i; work = w i }

module _ (aim : Objective) (k : Contract) (v : Valid k) (before : Areas) (has_room : room_for k before ≡ true) where
  -- eight order bytes
  eight : (n : ℕ) (a : Areas) → SuccessFor aim k n before a → 8 ≤ length a.order
  eight n a s = omega (arith, (room _ _ before has_room).order, s.order_length)

  success_same : (n m : ℕ) (a b : Areas) → ByteAreas a → ByteAreas b → SuccessFor aim k n before a → SuccessFor aim k m before b → (n ≡ m) × (a ≡ b)
  success_same n m a b ba bb s t =
      let front : take 8 a.order ≡ take 8 b.order =
      (order_same k v a.order b.order (eight n a s) (eight m b t) s.order t.order s.chosen t.chosen).1 in
      let later : drop 8 a.order ≡ drop 8 b.order = s.later_order ∙ sym t.later_order in
      let order : a.order ≡ b.order =
      sym (take-append-drop 8 a.order) ∙ ap₂ ◌++◌ front later ∙ take-append-drop 8 b.order in
      let xs = plan_in n a.places a.sums in
      let ys = plan_in m b.places b.sums in
      let (count, same) = claimed_same (deal_by k b.order) n m xs ys aim k.form (rw order at s.ours) t.ours in (
        count,
        areas_same
            (filled_same 2 _ _ before.places _ _ (omega arith) ba.places bb.places (ap (map (λ (x : State). x.place)) same) s.places t.places)
            (filled_same 4 _ _ before.sums _ _ (omega arith) ba.sums bb.sums (ap (map (λ (x : State). x.paid)) same) s.sums t.sums)
            order
            (s.work ∙ sym t.work),
      )

  -- no plan exists, or one is planned
  not_both : (n : ℕ) (a : Areas) → NoPlan k → SuccessFor aim k n before a → ⊥
  not_both n a none s =
      none (order_in k a.order) (order_of k v a.order (eight n a s) s.order) _ (claimed_plan aim k.form _ n _ s.ours)

  plans_same : (answer answer' : Res ℕ) (a b : Areas) → ByteAreas a → ByteAreas b → PlansFor aim (ok k) answer before a
      → PlansFor aim (ok k) answer' before b → (answer ≡ answer') × (a ≡ b)
  plans_same (refused e) (refused e') a b ba bb p q = (ap refused (p.0 ∙ sym q.0), p.1.1 ∙ sym q.1.1)
  plans_same (refused e) (ok m) a b ba bb p q = absurd (not_both m b p.1.0 q)
  plans_same (ok n) (refused e') a b ba bb p q = absurd (not_both n a q.1.0 p)
  plans_same (ok n) (ok m) a b ba bb p q = let (count, same) = success_same n m a b ba bb p q in (ap ok count, same)

-- ---- the outcome

outcome_same : {o u : Outcome} → (o.answer ≡ u.answer) × (o.areas ≡ u.areas) → o ≡ u
outcome_same e = λ i. record { answer = e.0 i; areas = e.1 i }

module _ (aim : Objective) (before : Areas) (o u : Outcome) where
  -- a refusal ahead of 9 is answered, and the areas are as they were
  pub refused_one : (e : ℕ) → Keeps aim (refused e) before o → Keeps aim (refused e) before u → o ≡ u
  refused_one e p q = outcome_same (p.plans.0 ∙ sym q.plans.0, p.plans.1 ∙ sym q.plans.1)

  -- of a contract, in areas with room
  pub contract_one : (k : Contract) → Valid k → room_for k before ≡ true → Keeps aim (ok k) before o → Keeps aim (ok k) before u → o ≡ u
  contract_one k v r p q = outcome_same (plans_same aim k v before r o.answer u.answer o.areas u.areas p.bytes q.bytes p.plans q.plans)
