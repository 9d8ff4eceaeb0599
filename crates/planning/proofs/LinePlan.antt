-- Steps along one order are our plan for their objective. Assumes nothing.
use mathlib.Core.Path.{◌≡◌, sym, subst}
use mathlib.Core.List.{List, map}
use Prim.Native.Nat.{ℕ}
use lib.Dec.{leb}
use lib.ListN.{length}
use Rattle.area.specs.Filled.{Filled}
use Rattle.contract.specs.declared.Form.{Form}
use Rattle.exchange.specs.Deal.{Deal, State, Behind, start, after}
use Rattle.exchange.specs.Objectives.{PlanFor}
use Rattle.exchange.specs.PlanIn.{plan_in}
use Rattle.exchange.specs.Possible.{Possible}
use Rattle.exchange.specs.Work.{Rising}
use Rattle.exchange.specs.declared.Objective.{Objective}
use Rattle.exchange.proofs.GivenOrder.{ruled_never_behind}
use Rattle.exchange.proofs.Objectives.{count_steps, steps_ruled, steps_arrive, plan_for_least}
use Rattle.exchange.proofs.PlanInLaws.{plan_in_lem}
use Rattle.line.specs.Promise as line
use Rattle.planning.specs.Promise.{ByRule, StepsGo, Ours, OursFor, Claimed}

-- steps of which something is claimed, and both areas with their entries
pub record Laid (claim : Deal → ℕ → List State → Type 0) (d : Deal) (n : ℕ) (ours : List State) (places sums places' sums' : List ℕ) : Type 0 where
  pub is_ours : claim d n ours
  pub places_are : Filled 2 (map (λ s. s.place) ours) places places'
  pub sums_are : Filled 4 (map (λ s. s.paid) ours) sums sums'

module _ (f : Form) (d : Deal) (r : Rising d) (counts : (a b : ℕ) → d.holds a b ≡ leb a b) (go : (xs : List State) → ByRule d xs → StepsGo f d xs) where
  -- the plan for each objective, of a deal that is possible
  module _ (p : Possible d) (n : ℕ) (xs : List State) (e : n ≡ length xs) where
    rule_claimed : PlanFor Objective.Steps d xs → Ours f d n xs
    rule_claimed v =
        let l = plan_for_least d r counts p Objective.Steps xs v in
        record {
          plan = l.plan;
          steps = e;
          least = λ ys q. rw (count_steps start xs, count_steps start ys, ← e) at (l.least ys q);
          steps_go = go xs (record {
            rule_steps = steps_ruled d xs v;
            never_behind = λ ys q m.
                subst (λ zs. Behind (after start ys m) (after start zs m)) (sym (steps_ruled d xs v)) (ruled_never_behind d r counts (length xs) (steps_arrive d xs v).there ys q m);
          });
        }

    for_claimed : (aim : Objective) → PlanFor aim d xs → OursFor aim d n xs
    for_claimed aim v =
        let l = plan_for_least d r counts p aim xs v in
        record {
          plan = l.plan;
          steps = e;
          short = rw e l.short;
          plan_for = v;
          least = l.least;
        }

    pub claimed : (aim : Objective) → PlanFor aim d xs → Claimed aim f d n xs
    claimed Objective.Steps v = rule_claimed v
    claimed Objective.Payments v = for_claimed Objective.Payments v
    claimed Objective.Deliveries v = for_claimed Objective.Deliveries v
    claimed Objective.Moves v = for_claimed Objective.Moves v

  -- of a ladder, and of unit prices
  pub line_laid : (aim : Objective) (n : ℕ) (places sums places' sums' : List ℕ) → line.Success aim d n places sums places' sums'
      → Laid (Claimed aim f) d n (plan_in n places' sums') places sums places' sums'
  line_laid aim n places sums places' sums' h =
      let entries_are : plan_in n places' sums' ≡ h.steps =
      rw h.count_is (plan_in_lem h.steps places' sums' _ _ h.places_are.entries_are h.sums_are.entries_are) in
      subst (λ xs. Laid (Claimed aim f) d n xs places sums places' sums') (sym entries_are)
      (record { is_ours = claimed h.possible n h.steps h.count_is aim h.plan_for; places_are = h.places_are; sums_are = h.sums_are })
