-- Every session of a safe plan stands in a safe state, and it is finished exactly when everything is delivered and the price is paid.
-- Assumes nothing.
use mathlib.Core.Path.{◌≡◌, refl, sym, ap, ◌∙◌, subst}
use mathlib.Core.Logic.{◌↔◌, ◌⊎◌, inl, inr}
use mathlib.Core.Bool.{Bool, true, false, cond}
use mathlib.Core.List.{List, [], ◌∷◌}
use Prim.Native.Nat.{ℕ, zero, suc, ◌≤◌, ◌<◌}
use native.Mathlib.Decide.{dec_lt}
use native.Mathlib.Omega.{arith}
use borrow.Author.Tests.{le-leb, leb-true, eqb-false, not-true}
use lib.Dec.{T}
use lib.ListN.{length}
use Rattle.contract.specs.Res.{ok}
use Rattle.contract.specs.Contract.{Contract}
use Rattle.exchange.specs.Deal.{Deal, State, Safe, Step, Chain, Plan, start, end, ends, after}
use Rattle.exchange.proofs.BoundLaws.{safe_neither}
use Rattle.exchange.proofs.Bridge.{within_price}
use Rattle.exchange.proofs.GivenOrder.Run.{state_eq}
use Rattle.planning.specs.Check.{SafeAlong}
use Rattle.planning.specs.Order.{order_in, deal_by}
use Rattle.session.specs.Session.{entry_of, moves, finished_by, awaited, done}
use Rattle.session.specs.Opening.{Opens}
use Rattle.session.specs.Reached.{Report, after_reports, reached_by, stands_at, stands, Sound, Ending, NeitherGains, Kept}
use Rattle.session.specs.declared.Session.{Session}
use Rattle.session.specs.declared.Side.{Side}
use Rattle.session.specs.declared.Side.TheVariants.{Delivery, Payment}
use Rattle.session.proofs.PlanLaws.{after_none}
use Rattle.session.proofs.Reachable.{awaited_moves, awaited_unmarked, reached_sound}
use Rattle.session.proofs.EndLaws.{contract_ending}

-- ---- where a list of states stands

after_end : (s : State) (xs : List State) (k : ℕ) → length xs ≤ k → after s xs k ≡ ends s xs
after_end s [] k h = refl
after_end s (t ∷ ts) zero h = absurd (omega arith)
after_end s (t ∷ ts) (suc k) h = after_end t ts k (omega arith)

step_at : (R : State → State → Type 0) (s : State) (xs : List State) → Chain R s xs → (k : ℕ) → k < length xs → R (after s xs k) (after s xs (suc k))
step_at R s [] c k h = absurd (omega arith)
step_at R s (t ∷ ts) c zero h = rw (after_none t ts) c.0
step_at R s (t ∷ ts) c (suc k) h = step_at R t ts c.1 k (omega arith)

-- ---- a session that is not finished has a side to report

some_awaited : (xs : List State) (s : Session) → done xs s ≡ false → (awaited xs s Delivery ≡ true) ⊎ (awaited xs s Payment ≡ true)
unfolding done
some_awaited xs s e = go (awaited xs s Delivery) (awaited xs s Payment) refl refl
  where
    go : (a b : Bool) → awaited xs s Delivery ≡ a → awaited xs s Payment ≡ b → (awaited xs s Delivery ≡ true) ⊎ (awaited xs s Payment ≡ true)
    go true b f g = inl f
    go false true f g = inr g
    go false false f g = absurd (subst T (rw (f, g) at e) tt)

-- a side that is still to be reported stands at the step before, and its entry differs there
module _ (xs : List State) (s : Session) (side : Side) (e : awaited xs s side ≡ true) where
  awaited_stands : stands_at xs s side ≡ entry_of side (after start xs s.passed)
  awaited_stands = rw (awaited_unmarked xs s side e)

  awaited_differs : entry_of side (after start xs (suc s.passed)) ≡ entry_of side (after start xs s.passed) → ⊥
  unfolding moves
  awaited_differs = eqb-false _ _ (not-true _ (awaited_moves xs s side e))

-- ---- a session of a plan

module _ (d : Deal) (f : Ending d) (xs : List State) (p : Plan d xs) (s : Session) where
  step_here : s.passed < length xs → Step d (after start xs s.passed) (after start xs (suc s.passed))
  step_here h = step_at (Step d) start xs p.steps s.passed h

  -- past the plan's end both sides stand at the end
  stands_end : length xs ≤ s.passed → (a : Bool) → after start xs (cond a (suc s.passed) s.passed) ≡ end d
  stands_end h true = after_end start xs (suc s.passed) (omega arith) ∙ p.arrives
  stands_end h false = after_end start xs s.passed h ∙ p.arrives

  -- the four states of a step
  stands_safe : Safe d (stands xs s).place (stands xs s).paid
  stands_safe = go (dec_lt s.passed (length xs))
    where
      four : s.passed < length xs → (a b : Bool)
          → Safe d (after start xs (cond a (suc s.passed) s.passed)).place (after start xs (cond b (suc s.passed) s.passed)).paid
      four l true true = (step_here l).safe_after
      four l true false = (step_here l).safe_delivered
      four l false true = (step_here l).safe_paid
      four l false false = (step_here l).safe

      go : Dec (s.passed < length xs) → Safe d (stands xs s).place (stands xs s).paid
      go (yes l) = four l s.delivered s.paid
      go (no n) = rw (stands_end (omega arith) s.delivered, stands_end (omega arith) s.paid) f.end_safe

  stands_neither : NeitherGains d (stands xs s).place (stands xs s).paid
  stands_neither t holds e =
      let safe = subst (λ (c : Deal). Safe c (stands xs s).place (stands xs s).paid) e stands_safe in
      (safe_neither t holds (stands xs s).place (stands xs s).paid (within_price _ _ safe)).0 safe

  module _ (g : Sound xs s) where
    -- with a move outstanding the firms are not at the end
    outstanding : s.passed < length xs → stands xs s ≡ end d → ⊥
    outstanding l e = go (some_awaited xs s (g.left l))
      where
        step : Step d (after start xs s.passed) (after start xs (suc s.passed))
        step = step_here l

        go : (awaited xs s Delivery ≡ true) ⊎ (awaited xs s Payment ≡ true) → ⊥
        go (inl a) =
            let here : (after start xs s.passed).place ≡ d.last = sym (awaited_stands xs s Delivery a) ∙ ap (λ (t : State). t.place) e in
            let held : T (d.holds d.last (after start xs (suc s.passed)).place) = rw here at step.delivers in
            awaited_differs xs s Delivery a (f.top _ step.in_deal held ∙ sym here)
        go (inr a) =
            let here : (after start xs s.passed).paid ≡ d.price = sym (awaited_stands xs s Payment a) ∙ ap (λ (t : State). t.paid) e in
            let high : (after start xs (suc s.passed)).paid ≤ d.price = within_price _ _ step.safe_after in
            let low : (after start xs s.passed).paid ≤ (after start xs (suc s.passed)).paid = step.pays in
            awaited_differs xs s Payment a (omega arith)

    finished↔ : (finished_by (length xs) s ≡ true) ↔ (stands xs s ≡ end d)
    finished↔ = (
      λ e.
          let h = leb-true _ _ e in
          state_eq (ap (λ (t : State). t.place) (stands_end h s.delivered)) (ap (λ (t : State). t.paid) (stands_end h s.paid)),
      λ e. go e (dec_lt s.passed (length xs)),
    )
      where
        go : stands xs s ≡ end d → Dec (s.passed < length xs) → finished_by (length xs) s ≡ true
        go e (yes l) = absurd (outstanding l e)
        go e (no n) = le-leb (length xs) s.passed (omega arith)

-- ---- every session of a plan, whatever was reported

pub session_kept : (d : Deal) → Ending d → (xs : List State) → Plan d xs → (rs : List Report) → Kept d xs (reached_by xs rs)
session_kept d f xs p rs =
    let s = reached_by xs rs in
    let g = reached_sound xs rs in
    record { sound = g; safe = stands_safe d f xs p s; neither_gains = stands_neither d f xs p s; finished_there = finished↔ d f xs p s g }

-- a plan that the check accepts
pub accepted_kept : (k : Contract) (order : List ℕ) (xs : List State) → SafeAlong k order xs → (rs : List Report) → Kept (deal_by k order) xs (reached_by xs rs)
accepted_kept k order xs a = session_kept (deal_by k order) (contract_ending k (order_in k order)) xs a.plan

-- a session that was opened on a plan that the check accepts, whatever is reported after that
pub opened_kept : (k : Contract) (order : List ℕ) (xs : List State) (s : Session) → Opens (ok k) order xs (ok tt) s → (rs : List Report)
    → Kept (deal_by k order) xs (after_reports xs s rs)
opened_kept k order xs s o rs = rw o.session (accepted_kept k order xs o.checks rs)
