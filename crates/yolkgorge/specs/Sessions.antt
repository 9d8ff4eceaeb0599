-- What the entries on sessions promise.
use Rattle.std.specs.Prelude.{◌≡◌, cond, not, List, ℕ, zero, suc, length}
use Rattle.contract.specs.Res.{Res, refused, ok, bind, test}
use Rattle.contract.specs.Contract.{Contract}
use Rattle.exchange.specs.Deal.{State}
use Rattle.session.specs.Session.{finished_by, brought_plan, report_in}
use Rattle.session.specs.Opening.{Opens}
use Rattle.session.specs.declared.Session.{Session}
use Rattle.session.specs.declared.Side.TheVariants.{Delivery, Payment}
use Rattle.yolkgorge.specs.Number.{code_of, or_short}
use Rattle.yolkgorge.specs.SessionBytes.{has_session, session_in, stored_in}

-- the area after an entry: the next session is stored, or the area is as it was on a refusal
abbrev pub area_after : List ℕ → Res Session → List ℕ
area_after s (refused e) = s
area_after s (ok t) = stored_in s t

-- the result is the answer's number, and the area is left as the answer says
pub record Leaves (said : Res Session) (r : ℕ) (before after : List ℕ) : Type 0 where
  pub number_is : r ≡ code_of said
  pub area_is : after ≡ area_after before said

-- ---- opening

-- the answer of opening, by the session area
abbrev pub for_area : List ℕ → Res (Unit {0}) → Res (Unit {0})
for_area s answer = cond (has_session s) answer (or_short answer)

-- opening: the session's promise, and the session is stored
pub record OpensNumber (ahead : Res Contract) (order : List ℕ) (xs : List State) (r : ℕ) (before after : List ℕ) : Type 0 where
  pub answer : Res (Unit {0})
  pub session : Session
  pub opens : Opens ahead order xs answer session
  pub leaves : Leaves (bind (for_area before answer) (λ u. ok session)) r before after

-- ---- reports

-- a report that names neither side fits no step: 8, then 11, then 10
unfoldable pub report_nowhere : ℕ → List ℕ → List ℕ → Session → Res Session
report_nowhere count places sums s = bind (brought_plan count places sums) (λ xs. test 11 (not (finished_by (length xs) s)) (refused 10))

-- a report by the number of its side: 0 is delivery, 1 is payment
abbrev pub report_by : ℕ → List ℕ → List ℕ → Session → ℕ → ℕ → Res Session
report_by count places sums s zero n = report_in count places sums s Delivery n
report_by count places sums s (suc zero) n = report_in count places sums s Payment n
report_by count places sums s (suc (suc side)) n = report_nowhere count places sums s

-- a report on the session in an area; 8 where the area is too short for one
unfoldable pub report_from : List ℕ → ℕ → List ℕ → List ℕ → ℕ → ℕ → Res Session
report_from area count places sums side n = test 8 (has_session area) (report_by count places sums (session_in area) side n)

-- 1 if the session in an area is finished, else 0; 8 where the area is too short for one
unfoldable pub finished_in : List ℕ → ℕ → ℕ
finished_in area count = cond (has_session area) (cond (finished_by count (session_in area)) 1 0) 8
