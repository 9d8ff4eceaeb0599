-- What opening a session promises.
use Rattle.std.specs.Prelude.{◌≡◌, List, ℕ, Result, Ok, Err}
use Rattle.contract.specs.Res.{Res, refused, ok}
use Rattle.contract.specs.Contract.{Contract}
use Rattle.exchange.specs.Deal.{State}
use Rattle.planning.specs.Answer.{checked_of}
use Rattle.planning.specs.Check.{Checks}
use Rattle.planning.specs.declared.CheckError.{CheckError}
use Rattle.session.specs.Session.{at_step, opened}
use Rattle.session.specs.declared.Session.{Session}

-- the session that an answer of the check opens: of a plan that is accepted its session, else nothing passed and no marks
abbrev pub session_by : Res (Unit {0}) → List State → Session
session_by (refused e) xs = at_step 0
session_by (ok u) xs = opened xs

-- "Opening runs the check on record and plan": the answer is that of the check, by the contract or the refusal ahead of 12, and the session
-- is the one that it opens
pub record Opens (ahead : Res Contract) (order : List ℕ) (xs : List State) (answer : Res (Unit {0})) (s : Session) : Type 0 where
  pub checks : Checks ahead answer order xs
  pub session : s ≡ session_by answer xs

-- the answer of opening, as the check gives it
abbrev pub answer_by : Result Session CheckError → Res (Unit {0})
answer_by (Ok s) = ok tt
answer_by (Err e) = checked_of (Err e)

-- the session that is opened; on a refusal there is none, and nothing is passed
abbrev pub session_of : Result Session CheckError → Session
session_of (Ok s) = s
session_of (Err e) = at_step 0
