-- How the check of a brought plan, and a session on it, can go. Assumes nothing.
use mathlib.Core.Path.{◌≡◌, refl, sym, ap, ◌∙◌, subst}
use mathlib.Core.Bool.{true, false, false≢true}
use mathlib.Core.List.{List, [], ◌∷◌}
use Prim.Native.Nat.{ℕ}
use lib.ListN.{length}
use Rattle.contract.specs.Res.{Res, refused, ok}
use Rattle.contract.specs.Contract.{Contract}
use Rattle.contract.specs.Parse.{parse}
use Rattle.contract.proofs.ParsedValid.{parsed_valid}
use Rattle.exchange.specs.Deal.{State}
use Rattle.exchange.specs.PlanIn.{plan_in}
use Rattle.exchange.specs.Work.{Rising}
use Rattle.planning.specs.Check.{SafeAlong, ahead_of_check, Checks}
use Rattle.planning.specs.Order.{names_order, deal_by}
use Rattle.planning.proofs.FormRising.{contract_rising}
use Rattle.session.specs.Session.{opened, report_in, report_on, reply_to, session_after}
use Rattle.session.specs.declared.Session.{Session}
use Rattle.cases.specs.Case.{Report, unsafe, session, no_order, Brought, Replies}
use Rattle.cases.proofs.AllFacts.{Right}
use Rattle.cases.proofs.Tests.{is_plan, plan↔}

-- ---- reports

-- the replies to reports on a plan
abbrev pub RepliesOn : List State → Session → List Report → Type 0
RepliesOn xs s [] = Unit {0}
RepliesOn xs s (r ∷ rs) =
    let said = report_on xs s r.side r.number in
    (reply_to said ≡ r.reply) × RepliesOn xs (session_after s said) rs

-- are those on the areas that it was brought in
replies_on : (xs : List State) (places sums : List ℕ) → Brought xs places sums → (s : Session) (rs : List Report) → RepliesOn xs s rs
    → Replies (length xs) places sums s rs
unfolding report_in
replies_on xs places sums b s [] h = tt
replies_on xs places sums b s (r ∷ rs) h = λ got p.
    let same : report_in (length xs) places sums s r.side r.number ≡ report_on xs s r.side r.number = rw (b.room, b.plan) in
    let next = p.session ∙ ap (session_after s) same in
    (p.reply ∙ ap reply_to same ∙ h.0, subst (λ t. Replies (length xs) places sums t rs) (sym next) (replies_on xs places sums b (session_after s (report_on xs s r.side r.number)) rs h.1))

module _ (bytes : List ℕ) (k : Contract) (read : parse bytes ≡ ok k) (xs : List State) where
  rising : Rising (deal_by k no_order)
  rising = contract_rising k _ (parsed_valid bytes k read)

  -- the promise of the check, by the contract and the plan
  checks : (places sums : List ℕ) (answer : Res (Unit {0})) → Brought xs places sums
      → Checks (ahead_of_check bytes (length xs) places sums no_order) answer no_order (plan_in (length xs) places sums)
      → Checks (ok k) answer no_order xs
  unfolding ahead_of_check
  checks places sums answer b c = rw (read, b.room, b.plan) at c

  refuses : (SafeAlong k no_order xs → ⊥) → (answer : Res (Unit {0})) → Checks (ok k) answer no_order xs → answer ≡ refused 12
  refuses none (refused e) c = ap refused c.0
  refuses none (ok u) c = absurd (none c)

  accepts : SafeAlong k no_order xs → (answer : Res (Unit {0})) → Checks (ok k) answer no_order xs → answer ≡ ok tt
  accepts safe (refused e) c = absurd (c.1 safe)
  accepts safe (ok u) c = refl

  -- steps that are no plan are refused
  pub not_accepted : is_plan (deal_by k no_order) xs ≡ false → Right bytes (ok k) (unsafe xs 12)
  not_accepted e =
      let none : SafeAlong k no_order xs → ⊥ = λ safe. false≢true (sym e ∙ (plan↔ _ rising xs).1 safe.plan) in
      record { claim = none; only = λ places sums answer b c. refuses none answer (checks places sums answer b c) }

  -- a plan is accepted, and its reports get their replies
  pub session_runs : names_order k no_order ≡ true → is_plan (deal_by k no_order) xs ≡ true → (reports : List Report)
      → RepliesOn xs (opened xs) reports → Right bytes (ok k) (session xs reports)
  session_runs named e reports replies =
      let safe : SafeAlong k no_order xs = record { named = named; plan = (plan↔ _ rising xs).0 e } in
      record {
        claim = safe;
        only = λ places sums answer s b o.
            let accepted = accepts safe answer (checks places sums answer b o.checks) in
            let f : s ≡ opened xs = rw (accepted, b.plan) at o.session in
            record { accepted = accepted; replies = rw f (replies_on xs places sums b (opened xs) reports replies) };
      }
