-- What clipping the bounds leaves as it was. The sentence is W4's: "Plans, orders and refusals are equal to those of today".
use Rattle.std.specs.Prelude.{◌↔◌, List, ℕ}
use Rattle.exchange.specs.Deal.{Deal, State, Safe, Plan}
use Rattle.exchange.specs.Fewest.{Earliest}
use Rattle.exchange.specs.Objectives.{PlanFor}
use Rattle.exchange.specs.declared.Objective.{Objective}

-- two deals with the same safe states and so the same plans; the plan of one for an objective along its order, or with fewest steps by the
-- earliest rows, is that of the other
pub record SamePlans (d e : Deal) : Type 0 where
  pub safe : (x p : ℕ) → Safe d x p ↔ Safe e x p
  pub plans : (xs : List State) → Plan d xs ↔ Plan e xs
  pub plans_for : (aim : Objective) (xs : List State) → PlanFor aim d xs ↔ PlanFor aim e xs
  pub earliest : (xs : List State) → Earliest d xs ↔ Earliest e xs
