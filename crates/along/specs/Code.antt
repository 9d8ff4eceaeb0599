-- What the functions give.
use Rattle.std.specs.Prelude.{List, ℕ, Result}
use Rattle.exchange.specs.declared.Objective.{Objective}
use Rattle.planning.specs.Answer.{answer_of}
use Rattle.planning.specs.Areas.{Areas}
use Rattle.planning.specs.Promise.{ahead, PlansFor}
use Rattle.planning.specs.declared.PlanError.{PlanError}

-- the promise for a record whose form was found
pub record PlansFound (aim : Objective) (bytes : List ℕ) (r : Result ℕ PlanError) (before after : Areas) : Type 0 where
  pub plans : PlansFor aim (ahead bytes before) (answer_of r) before after
