-- What the private functions ask and give.
use Rattle.std.specs.Prelude.{List, ℕ, length, replicate, Result, Ok, Err}
use Rattle.planning.specs.declared.PlanError.{PlanError}

-- the work area after an answer along an order: zero, or as it was where the areas are refused
abbrev pub work_after : Result ℕ PlanError → List ℕ → List ℕ
work_after (Err (PlanError.Refused e)) w = w
work_after (Err PlanError.Impossible) w = replicate (length w) 0
work_after (Ok n) w = replicate (length w) 0
