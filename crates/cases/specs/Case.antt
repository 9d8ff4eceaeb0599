-- What a case says: the bytes of a record, the contract that they are, and for each question to the record an answer that the promises
-- allow, and the only one.
use Rattle.std.specs.Prelude.{◌≡◌, true, List, [], ◌∷◌, ℕ, ℤ, length, take, replicate}
use Rattle.contract.specs.Res.{Res, refused, ok}
use Rattle.contract.specs.Contract.{Contract}
use Rattle.contract.specs.Parse.{parse}
use Rattle.exchange.specs.Deal.{State}
use Rattle.exchange.specs.PlanIn.{plan_in}
use Rattle.planning.specs.Areas.{Areas, Roomy}
use Rattle.planning.specs.Bounds.{bounds_of}
use Rattle.planning.specs.Check.{holds_count, ahead_of_check}
use Rattle.planning.specs.Check as check
use Rattle.planning.specs.Deals.{NoPlan}
use Rattle.planning.specs.Order.{names_order, deal_by, NamesChosen}
use Rattle.planning.specs.Promise.{ahead, Ours, Plans}
use Rattle.session.specs.Opening.{Opens}
use Rattle.session.specs.Session.{report_in, replied, Reports}
use Rattle.session.specs.declared.Reported.{Reported}
use Rattle.session.specs.declared.Session.{Session}
use Rattle.session.specs.declared.Side.{Side}

-- a report, and its reply: taken, or the number of the refusal
pub record Report : Type 0 where
  pub side : Side
  pub number : ℕ
  pub reply : Res (Unit {0})

-- a question to a record, with its answer: the lower and the upper bound of a place; a plan with its order bytes; the number of planning's
-- refusal; a brought plan with the number of its refusal; a session on a brought plan
pub data Question : Type 0 where
  bounds : ℕ → ℤ → ℤ → Question
  plan : List ℕ → List State → Question
  no_plan : ℕ → Question
  unsafe : List State → ℕ → Question
  session : List State → List Report → Question

-- order bytes that name no item
abbrev pub no_order : List ℕ
no_order = replicate 8 0

-- planning, in whatever areas have room, can by its promise end only so
abbrev pub PlanningEnds : List ℕ → (Res ℕ → Areas → Type 0) → Type 0
PlanningEnds bytes Ends =
    (before after : Areas) (answer : Res ℕ) → Roomy before → Plans (ahead bytes before) answer before after → Ends answer after

-- the answer and the areas are those of this order and these steps
pub record Gives (order : List ℕ) (xs : List State) (answer : Res ℕ) (after : Areas) : Type 0 where
  pub count : answer ≡ ok (length xs)
  pub plan : plan_in (length xs) after.places after.sums ≡ xs
  pub named : take 8 after.order ≡ order

-- these steps are in two byte areas
pub record Brought (xs : List State) (places sums : List ℕ) : Type 0 where
  pub room : holds_count (length xs) places sums ≡ true
  pub plan : plan_in (length xs) places sums ≡ xs

-- each report, made after the ones before it, can by its promise get only its reply
abbrev pub Replies : ℕ → List ℕ → List ℕ → Session → List Report → Type 0
Replies count places sums s [] = Unit {0}
Replies count places sums s (r ∷ rs) =
    (got : Reported) → Reports (report_in count places sums s r.side r.number) s got
    → (replied got.reply ≡ r.reply) × Replies count places sums got.session rs

-- opening is, by its promise, accepted, and the reports get their replies
pub record Runs (count : ℕ) (places sums : List ℕ) (answer : Res (Unit {0})) (s : Session) (reports : List Report) : Type 0 where
  pub accepted : answer ≡ ok tt
  pub replies : Replies count places sums s reports

-- the answer to a question is the only one that the promises allow
abbrev pub Answered : List ℕ → Question → Type 0
Answered bytes (bounds x low high) = bounds_of bytes x no_order ≡ ok (record { lower = low; upper = high })
Answered bytes (plan order xs) = PlanningEnds bytes (Gives order xs)
Answered bytes (no_plan e) = PlanningEnds bytes (λ answer after. answer ≡ refused e)
Answered bytes (unsafe xs e) =
    (places sums : List ℕ) (answer : Res (Unit {0})) → Brought xs places sums
    → check.Checks (ahead_of_check bytes (length xs) places sums no_order) answer no_order (plan_in (length xs) places sums) → answer ≡ refused e
Answered bytes (session xs reports) =
    (places sums : List ℕ) (answer : Res (Unit {0})) (s : Session) → Brought xs places sums
    → Opens (ahead_of_check bytes (length xs) places sums no_order) no_order (plan_in (length xs) places sums) answer s
    → Runs (length xs) places sums answer s reports

-- what planning claims of an order and of the steps along it
pub record Claimed (k : Contract) (order : List ℕ) (xs : List State) : Type 0 where
  pub named : names_order k order ≡ true
  pub chosen : NamesChosen k order
  pub ours : Ours k.form (deal_by k order) (length xs) xs

-- what the answer to a question claims of the contract is so; so the promises do not allow it in vain
abbrev pub Claim : Contract → Question → Type 0
Claim k (bounds x low high) = Unit {0}
Claim k (plan order xs) = Claimed k order xs
Claim k (no_plan e) = NoPlan k
Claim k (unsafe xs e) = check.SafeAlong k no_order xs → ⊥
Claim k (session xs reports) = check.SafeAlong k no_order xs

-- the same by what the record says; where it is refused nothing is claimed of a contract
abbrev pub ClaimIn : Res Contract → Question → Type 0
ClaimIn (refused e) q = Unit {0}
ClaimIn (ok k) q = Claim k q

-- a record, what it says, and the questions to it
pub record Case : Type 0 where
  pub bytes : List ℕ
  pub says : Res Contract
  pub questions : List Question

-- a fact of every question of a list
abbrev pub Every : (Question → Type 0) → List Question → Type 0
Every F [] = Unit {0}
Every F (q ∷ qs) = F q × Every F qs

-- the record says what the case says of it, the answers to its questions are so, and no others are allowed
pub record Holds (c : Case) : Type 0 where
  pub read : parse c.bytes ≡ c.says
  pub claimed : Every (ClaimIn c.says) c.questions
  pub answered : Every (Answered c.bytes) c.questions

-- all cases of a list hold
abbrev pub AllHold : List Case → Type 0
AllHold [] = Unit {0}
AllHold (c ∷ cs) = Holds c × AllHold cs
