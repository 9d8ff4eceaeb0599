-- Our plan for an objective beside a plan that is brought. Assumes nothing.
use mathlib.Core.List.{List}
use Prim.Native.Nat.{ℕ, ◌≤◌}
use Rattle.contract.specs.Contract.{Contract}
use Rattle.exchange.specs.Deal.{State, start}
use Rattle.exchange.specs.Objectives.{count, counted}
use Rattle.exchange.specs.declared.Objective.{Objective}
use Rattle.planning.specs.Check.{SafeAlong}
use Rattle.planning.specs.Order.{deal_by}
use Rattle.planning.specs.Promise.{OursFor}

-- no plan that the check accepts along the order of ours has fewer payments, deliveries or moves, whoever brings it
pub accepted_no_less : (aim : Objective) (k : Contract) (order : List ℕ) (n : ℕ) (ours xs : List State) → OursFor aim (deal_by k order) n ours
    → SafeAlong k order xs → count (counted aim) start ours ≤ count (counted aim) start xs
accepted_no_less aim k order n ours xs o a = o.least xs a.plan
