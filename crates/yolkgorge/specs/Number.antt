-- Answers and sides as plain numbers.
use Rattle.std.specs.Prelude.{cond, ℕ, zero, suc, ◌<◌, ◌^◌, ltb, ℤ, pos, neg_ℤ, Option, Some, None, Result, Ok, Err}
use Rattle.contract.specs.Contract.{number_of}
use Rattle.contract.specs.Res.{Res, refused, ok}
use Rattle.planning.specs.declared.BoundsError.{BoundsError}
use Rattle.planning.specs.declared.CheckError.{CheckError}
use Rattle.planning.specs.declared.PlanError.{PlanError}
use Rattle.session.specs.declared.ReportError.{ReportError}
use Rattle.session.specs.declared.Side.{Side}
use Rattle.session.specs.declared.Side.TheVariants.{Delivery, Payment}

-- planning: the step count, or minus the number of the refusal
abbrev pub number_for : Res ℕ → ℤ
number_for (refused e) = neg_ℤ (pos e)
number_for (ok n) = pos n

-- other answers: 0 for success, else the number of the refusal
abbrev pub code_of : {A : Type 0} → Res A → ℕ
code_of (refused e) = e
code_of (ok a) = 0

-- a step count has room in 64 bits with a sign
abbrev pub CountFits : Res ℕ → Type 0
CountFits (refused e) = Unit {0}
CountFits (ok n) = n < 2 ^ 63

-- the answer where an area of the caller's is too short: "then 8, then 9 or 12", so the refusals up to 8 stand, and all else is 8
abbrev pub or_short : {A : Type 0} → Res A → Res A
or_short (refused e) = refused (cond (ltb e 8) e 8)
or_short (ok a) = refused 8

-- the number of each error: those of a record's refusals, and the paper's
abbrev pub plan_number : PlanError → ℕ
plan_number (PlanError.Refused e) = number_of e
plan_number PlanError.Impossible = 9

abbrev pub bounds_number : BoundsError → ℕ
bounds_number (BoundsError.Refused e) = number_of e
bounds_number BoundsError.WrongOrder = 12

abbrev pub check_number : CheckError → ℕ
check_number (CheckError.Refused e) = number_of e
check_number CheckError.Unsafe = 12

abbrev pub report_number : ReportError → ℕ
report_number ReportError.Short = 8
report_number ReportError.Finished = 11
report_number ReportError.Unfit = 10

-- an answer by the number of its error
abbrev pub numbered : {A E : Type 0} → (E → ℕ) → Result A E → Res A
numbered f (Ok a) = ok a
numbered f (Err e) = refused (f e)

-- the side that a number names: 0 is delivery, 1 is payment
abbrev pub side_of : ℕ → Option Side
side_of zero = Some Delivery
side_of (suc zero) = Some Payment
side_of (suc (suc n)) = None
