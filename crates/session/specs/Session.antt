-- A session, as the paper writes it: which report fits, which steps are passed over, and what a report hands back.
use Rattle.std.specs.Prelude.{◌≡◌, Bool, true, false, cond, not, ◌&&◌, List, ℕ, zero, suc, ◌-◌, leb, eqb, length, Result, Ok, Err}
use Rattle.contract.specs.Res.{Res, refused, ok, bind, test}
use Rattle.exchange.specs.Deal.{State, start, after}
use Rattle.exchange.specs.PlanIn.{plan_in}
use Rattle.planning.specs.Check.{holds_count}
use Rattle.session.specs.declared.Session.{Session}
use Rattle.session.specs.declared.Side.{Side}
use Rattle.session.specs.declared.Side.TheVariants.{Delivery, Payment}
use Rattle.session.specs.declared.ReportError.{ReportError}
use Rattle.session.specs.declared.ReportError.TheVariants.{Short, Finished, Unfit}
use Rattle.session.specs.declared.Reported.{Reported}

-- ---- a plan and a session

-- "the place or the paid total" of a state
abbrev pub entry_of : Side → State → ℕ
entry_of Delivery t = t.place
entry_of Payment t = t.paid

-- whether a side moves in the step after k steps: its "entry differs from the step before"
unfoldable pub moves : List State → ℕ → Side → Bool
moves xs k side = not (eqb (entry_of side (after start xs (suc k))) (entry_of side (after start xs k)))

-- whether a side of the open step is marked
abbrev pub marked : Session → Side → Bool
marked s Delivery = s.delivered
marked s Payment = s.paid

-- the session with a side marked
abbrev pub mark : Session → Side → Session
mark s Delivery = record { passed = s.passed; delivered = true; paid = s.paid }
mark s Payment = record { passed = s.passed; delivered = s.delivered; paid = true }

-- "it is finished when that number is at least the plan's count"
abbrev pub finished_by : ℕ → Session → Bool
finished_by count s = leb count s.passed

-- whether a side of the open step is still to be reported: its "entry differs from the step before, and that side isn't marked"
unfoldable pub awaited : List State → Session → Side → Bool
awaited xs s side = moves xs s.passed side && not (marked s side)

-- "It fits if it equals the plan's entry, that entry differs from the step before, and that side isn't marked"
unfoldable pub fits : List State → Session → Side → ℕ → Bool
fits xs s side n = eqb n (entry_of side (after start xs (suc s.passed))) && awaited xs s side

-- ---- steps passed over

-- whether the open step is one "whose moves are all reported, or that has none"
unfoldable pub done : List State → Session → Bool
done xs s = not (awaited xs s Delivery) && not (awaited xs s Payment)

-- k steps passed, and no marks
abbrev pub at_step : ℕ → Session
at_step k = record { passed = k; delivered = false; paid = false }

-- "A step whose moves are all reported, or that has none, is passed over": at most n steps
unfoldable pub settle : List State → ℕ → Session → Session
settle xs zero s = s
settle xs (suc n) s = cond (done xs s) (settle xs n (at_step (suc s.passed))) s

-- passed over as far as the plan goes
abbrev pub settled : List State → Session → Session
settled xs s = settle xs (length xs - s.passed) s

-- the session of a plan at its opening: a step is passed over "at opening too"
abbrev pub opened : List State → Session
opened xs = settle xs (length xs) (at_step 0)

-- ---- reports

-- a report on a plan: 11 where the session is finished, then 10 where it doesn't fit, else the next session
unfoldable pub report_on : List State → Session → Side → ℕ → Res Session
report_on xs s side n = test 11 (not (finished_by (length xs) s)) (test 10 (fits xs s side n) (ok (settled xs (mark s side))))

-- the plan of a call: "A count above either area gets 8", "in a report ahead of 11 and 10"
abbrev pub brought_plan : ℕ → List ℕ → List ℕ → Res (List State)
brought_plan count places sums = test 8 (holds_count count places sums) (ok (plan_in count places sums))

-- a report in a call
unfoldable pub report_in : ℕ → List ℕ → List ℕ → Session → Side → ℕ → Res Session
report_in count places sums s side n = bind (brought_plan count places sums) (λ xs. report_on xs s side n)

-- the session after a report: "number and the same session" on a refusal, else the next
abbrev pub session_after : Session → Res Session → Session
session_after s (refused e) = s
session_after s (ok next) = next

-- the paper's numbers of the replies
abbrev pub replied : Result (Unit {0}) ReportError → Res (Unit {0})
replied (Ok u) = ok tt
replied (Err Short) = refused 8
replied (Err Finished) = refused 11
replied (Err Unfit) = refused 10

-- the reply of a report: its number, or success
abbrev pub reply_to : Res Session → Res (Unit {0})
reply_to (refused e) = refused e
reply_to (ok next) = ok tt

-- the promise of a report: the reply and the session after it are those of the definition
pub record Reports (said : Res Session) (s : Session) (r : Reported) : Type 0 where
  pub reply : replied r.reply ≡ reply_to said
  pub session : r.session ≡ session_after s said
