-- What planning promises, by the record, the areas and the answer.
use Rattle.std.specs.Prelude.{◌≡◌, Bool, true, false, List, map, ℕ, ◌+◌, ◌*◌, ◌≤◌, length, drop, replicate, Result}
use Rattle.area.specs.Filled.{Filled}
use Rattle.contract.specs.Res.{Res, refused, ok, bind, test}
use Rattle.contract.specs.Contract.{Contract}
use Rattle.contract.specs.Parse.{parse}
use Rattle.contract.specs.declared.Form.{Form}
use Rattle.contract.specs.declared.Form.TheVariants.{Ladder, UnitPrices, Table}
use Rattle.exchange.specs.Deal.{Deal, State, Plan, Behind, start, after}
use Rattle.exchange.specs.PlanIn.{plan_in}
use Rattle.exchange.specs.Rule.{ruled}
use Rattle.exchange.specs.Fewest.{Earliest}
use Rattle.exchange.specs.Objectives.{PlanFor, count, counted}
use Rattle.exchange.specs.declared.Objective.{Objective}
use Rattle.planning.specs.Deals.{NoPlan}
use Rattle.planning.specs.Order.{names_order, deal_by, NamesChosen}
use Rattle.planning.specs.Areas.{Areas, room_for, work_cleared}
use Rattle.planning.specs.Answer.{answer_of}
use Rattle.planning.specs.declared.PlanError.{PlanError}

-- a contract, or 8 where an area is too short for a plan of it
abbrev pub roomed : Contract → Areas → Res Contract
roomed k a = test 8 (room_for k a) (ok k)

-- the refusal that stands ahead of 9, or the contract: those of the record, then 8
unfoldable pub ahead : List ℕ → Areas → Res Contract
ahead bytes a = bind (parse bytes) (λ k. roomed k a)

-- whether plans go along an order of the units; those of a table go from row to row
abbrev pub along_order : Form → Bool
along_order Ladder = true
along_order UnitPrices = true
along_order Table = false

-- W1: the refusal ahead of 9, or the contract: "A table handed in here gets 2, after the record refusals (1 to 7) and ahead of 8"
unfoldable pub ahead_along : List ℕ → Areas → Res Contract
ahead_along bytes a = bind (parse bytes) (λ k. test 2 (along_order k.form) (roomed k a))

-- along an order: the steps are the rule's, and after equally many steps every plan has delivered no more and been paid no more
pub record ByRule (d : Deal) (ours : List State) : Type 0 where
  pub rule_steps : ours ≡ ruled d start (length ours)
  pub never_behind : (xs : List State) → Plan d xs → (m : ℕ) → Behind (after start xs m) (after start ours m)

-- how the steps of each form go: those of a ladder and of unit prices by the rule for a given order; W2: "For a table, of the fewest-step
-- plans the one whose list of rows is earliest, compared from the first step"
abbrev pub StepsGo : Form → Deal → List State → Type 0
StepsGo Ladder d ours = ByRule d ours
StepsGo UnitPrices d ours = ByRule d ours
StepsGo Table d ours = Earliest d ours

-- n steps of the deal d: they are a plan, no plan has fewer
pub record Ours (f : Form) (d : Deal) (n : ℕ) (ours : List State) : Type 0 where
  pub plan : Plan d ours
  pub steps : n ≡ length ours
  pub least : (xs : List State) → Plan d xs → n ≤ length xs
  pub steps_go : StepsGo f d ours

-- W1, n steps of the deal d for an objective: they are the plan for it, and by what it counts no plan in the same order has less
pub record OursFor (aim : Objective) (d : Deal) (n : ℕ) (ours : List State) : Type 0 where
  pub plan : Plan d ours
  pub steps : n ≡ length ours
  pub short : n ≤ 2 * d.last + 1
  pub plan_for : PlanFor aim d ours
  pub least : (xs : List State) → Plan d xs → count (counted aim) start ours ≤ count (counted aim) start xs

-- what is claimed of our steps. W1: "for these three it stands in place of demand 3's count and its comparison after equally many steps"
abbrev pub Claimed : Objective → Form → Deal → ℕ → List State → Type 0
Claimed Objective.Steps f = Ours f
Claimed Objective.Payments f = OursFor Objective.Payments
Claimed Objective.Deliveries f = OursFor Objective.Deliveries
Claimed Objective.Moves f = OursFor Objective.Moves

-- n steps were planned: the order bytes name the chosen order, and the first n entries are our plan along it. All other entries are zero, and
-- so is the work area; remainders, lengths and later order bytes are as they were
pub record SuccessFor (aim : Objective) (k : Contract) (n : ℕ) (before after : Areas) : Type 0 where
  pub order : names_order k after.order ≡ true
  pub chosen : NamesChosen k after.order
  pub ours : Claimed aim k.form (deal_by k after.order) n (plan_in n after.places after.sums)
  pub places : Filled 2 (map (λ s. s.place) (plan_in n after.places after.sums)) before.places after.places
  pub sums : Filled 4 (map (λ s. s.paid) (plan_in n after.places after.sums)) before.sums after.sums
  pub order_length : length after.order ≡ length before.order
  pub later_order : drop 8 after.order ≡ drop 8 before.order
  pub work : after.work ≡ replicate (length before.work) 0

-- the promise of planning for an objective, by the contract or the refusal ahead of 9, and by the answer: a refusal ahead of 9 is answered and
-- leaves all areas; 9 is answered only if no plan exists in any order; every other answer is a plan
abbrev pub PlansFor : Objective → Res Contract → Res ℕ → Areas → Areas → Type 0
PlansFor aim (refused e) answer before after = (answer ≡ refused e) × (after ≡ before)
PlansFor aim (ok k) (refused e) before after = (e ≡ 9) × (NoPlan k × (after ≡ work_cleared before))
PlansFor aim (ok k) (ok n) before after = SuccessFor aim k n before after

-- planning for fewest steps: n steps were planned
abbrev pub Success : Contract → ℕ → Areas → Areas → Type 0
Success k n before after = SuccessFor Objective.Steps k n before after

-- the promise of planning for fewest steps
abbrev pub Plans : Res Contract → Res ℕ → Areas → Areas → Type 0
Plans ahead answer before after = PlansFor Objective.Steps ahead answer before after

-- the promise for a contract that was read
pub record PlansOf (aim : Objective) (k : Contract) (r : Result ℕ PlanError) (before after : Areas) : Type 0 where
  pub plans : PlansFor aim (roomed k before) (answer_of r) before after
