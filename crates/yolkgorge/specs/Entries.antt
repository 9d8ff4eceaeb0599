-- What the entries for C programs promise.
use Rattle.std.specs.Prelude.{◌≡◌, List, ℕ, ℤ}
use Rattle.contract.specs.Res.{Res}
use Rattle.contract.specs.Contract.{Contract}
use Rattle.exchange.specs.Deal.{State}
use Rattle.exchange.specs.declared.Objective.{Objective}
use Rattle.planning.specs.Areas.{Areas}
use Rattle.planning.specs.Check.{Checks}
use Rattle.planning.specs.Promise.{PlansFor}
use Rattle.yolkgorge.specs.Number.{number_for, code_of}

-- planning for an objective: the result is the number of an answer that keeps the planner's promise
pub record PlansNumberFor (aim : Objective) (ahead : Res Contract) (r : ℤ) (before after : Areas) : Type 0 where
  pub answer : Res ℕ
  pub plans : PlansFor aim ahead answer before after
  pub number_is : r ≡ number_for answer

-- planning for fewest steps
abbrev pub PlansNumber : Res Contract → ℤ → Areas → Areas → Type 0
PlansNumber ahead r before after = PlansNumberFor Objective.Steps ahead r before after

-- checking: the result is the number of an answer that keeps the promise of the check
pub record ChecksNumber (ahead : Res Contract) (r : ℕ) (order : List ℕ) (xs : List State) : Type 0 where
  pub answer : Res (Unit {0})
  pub checks : Checks ahead answer order xs
  pub number_is : r ≡ code_of answer
