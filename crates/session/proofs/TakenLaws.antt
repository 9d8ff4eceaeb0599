-- Where the firms stand follows the reports: at opening nothing is delivered or paid, and a report that is taken moves its side to its number
-- and nothing else. Assumes nothing.
use mathlib.Core.Path.{◌≡◌, refl, sym, ap, ◌∙◌, subst}
use mathlib.Core.Bool.{Bool, true, false, not, and-eq-true_iff}
use mathlib.Core.List.{List}
use Prim.Native.Nat.{ℕ, zero, suc, ◌-◌}
use borrow.Author.Tests.{eqb-true, not-true}
use lib.Dec.{T, eqb}
use lib.ListN.{length}
use Rattle.contract.specs.Res.{ok}
use Rattle.contract.proofs.ParsedValid.ResLaws.{ok_inv, test_inv}
use Rattle.exchange.specs.Deal.{State, start, after}
use Rattle.exchange.proofs.GivenOrder.Run.{state_eq}
use Rattle.session.specs.Session.{entry_of, moves, marked, mark, finished_by, awaited, fits, done, at_step, settle, opened, report_on}
use Rattle.session.specs.Reached.{stands_at, stands, with_entry}
use Rattle.session.specs.declared.Session.{Session}
use Rattle.session.specs.declared.Side.{Side}
use Rattle.session.specs.declared.Side.TheVariants.{Delivery, Payment}
use Rattle.session.proofs.PlanLaws.{after_none}
use Rattle.session.proofs.CodeLaws.{settle_stays, settle_passes}
use Rattle.session.proofs.Reachable.{fit_entry}

module _ (xs : List State) where
  -- a side with nothing left to report stands at the open step's entry
  side_passed : (s : Session) (side : Side) → awaited xs s side ≡ false → stands_at xs s side ≡ entry_of side (after start xs (suc s.passed))
  unfolding awaited moves
  side_passed s side e = go (marked s side) (eqb (entry_of side (after start xs (suc s.passed))) (entry_of side (after start xs s.passed))) refl refl
    where
      go : (m q : Bool) → marked s side ≡ m → eqb (entry_of side (after start xs (suc s.passed))) (entry_of side (after start xs s.passed)) ≡ q
          → stands_at xs s side ≡ entry_of side (after start xs (suc s.passed))
      go true q f g = rw f
      go false true f g = rw f (sym (eqb-true _ _ g))
      go false false f g = absurd (subst T (rw (g, f) at e) tt)

  -- so passing over moves nothing
  pass_stands : (s : Session) → done xs s ≡ true → stands xs (at_step (suc s.passed)) ≡ stands xs s
  unfolding done
  pass_stands s e =
      let f = (and-eq-true_iff _ _).0 e in
      state_eq (sym (side_passed s Delivery (not-true _ f.0))) (sym (side_passed s Payment (not-true _ f.1)))

  settle_stands : (n : ℕ) (s : Session) → stands xs (settle xs n s) ≡ stands xs s
  unfolding settle
  settle_stands zero s = refl
  settle_stands (suc n) s = go (done xs s) refl (settle_stands n (at_step (suc s.passed)))
    where
      go : (b : Bool) → done xs s ≡ b → stands xs (settle xs n (at_step (suc s.passed))) ≡ stands xs (at_step (suc s.passed))
          → stands xs (settle xs (suc n) s) ≡ stands xs s
      go true d next = rw (settle_passes xs s n d) (next ∙ pass_stands s d)
      go false d next = rw (settle_stays xs s (suc n) d)

  pub opened_stands : stands xs (opened xs) ≡ start
  opened_stands = settle_stands (length xs) (at_step 0) ∙ state_eq (ap (λ (t : State). t.place) (after_none start xs)) (ap (λ (t : State). t.paid) (after_none start xs))

  mark_stands : (s : Session) (side : Side) (n : ℕ) → n ≡ entry_of side (after start xs (suc s.passed)) → stands xs (mark s side) ≡ with_entry side n (stands xs s)
  mark_stands s Delivery n e = state_eq (sym e) refl
  mark_stands s Payment n e = state_eq refl (sym e)

  pub taken_stands : (s : Session) (side : Side) (n : ℕ) (next : Session) → report_on xs s side n ≡ ok next → stands xs next ≡ with_entry side n (stands xs s)
  unfolding report_on
  taken_stands s side n next e =
      let (_, tested) = test_inv (not (finished_by (length xs) s)) 11 _ e in
      let (fit, taken) = test_inv (fits xs s side n) 10 _ tested in
      rw (← ok_inv taken) (settle_stands (length xs - (mark s side).passed) (mark s side) ∙ mark_stands s side n (fit_entry xs s side n fit))
