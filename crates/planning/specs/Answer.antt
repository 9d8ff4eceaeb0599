-- The paper's number and values of each answer.
use Rattle.std.specs.Prelude.{ℕ, Result, Ok, Err}
use Rattle.contract.specs.Res.{Res, refused, ok}
use Rattle.contract.specs.Contract.{number_of}
use Rattle.exchange.specs.declared.Bounds.{Bounds}
use Rattle.planning.specs.declared.BoundsError.{BoundsError}
use Rattle.planning.specs.declared.CheckError.{CheckError}
use Rattle.planning.specs.declared.PlanError.{PlanError}

-- planning: the number of a refusal, or the step count
abbrev pub answer_of : Result ℕ PlanError → Res ℕ
answer_of (Err (PlanError.Refused e)) = refused (number_of e)
answer_of (Err PlanError.Impossible) = refused 9
answer_of (Ok n) = ok n

-- bounds: the number of a refusal, or the bounds
abbrev pub bounded_of : Result Bounds BoundsError → Res Bounds
bounded_of (Err (BoundsError.Refused e)) = refused (number_of e)
bounded_of (Err BoundsError.WrongOrder) = refused 12
bounded_of (Ok b) = ok b

-- checking: the number of a refusal, or acceptance
abbrev pub checked_of : Result (Unit {0}) CheckError → Res (Unit {0})
checked_of (Err (CheckError.Refused e)) = refused (number_of e)
checked_of (Err CheckError.Unsafe) = refused 12
checked_of (Ok u) = ok tt
