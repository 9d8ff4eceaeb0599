-- The sessions that reports lead to. Assumes nothing.
use mathlib.Core.Path.{◌≡◌, refl, sym, subst}
use mathlib.Core.Bool.{Bool, true, false, not, and-eq-true_iff}
use mathlib.Core.List.{List, [], ◌∷◌}
use Prim.Native.Nat.{ℕ, zero, suc, ◌+◌, ◌-◌, ◌≤◌, ◌<◌}
use native.Mathlib.Omega.{arith}
use borrow.Author.Tests.{eqb-true, not-true}
use lib.Dec.{T, eqb}
use lib.ListN.{length}
use Rattle.exchange.specs.Deal.{State, start, after}
use Rattle.session.specs.Session.{entry_of, moves, marked, mark, finished_by, awaited, fits, done, at_step, settle, settled, opened, report_on, session_after}
use Rattle.session.specs.Reached.{Report, after_reports, reached_by, Sound}
use Rattle.session.specs.declared.Session.{Session}
use Rattle.session.specs.declared.Side.{Side}
use Rattle.session.specs.declared.Side.TheVariants.{Delivery, Payment}
use Rattle.session.proofs.CodeLaws.{settle_stays, settle_passes}

module _ (xs : List State) where
  -- marks only on sides that move
  abbrev MarksMove : Session → Type 0
  MarksMove s = (side : Side) → marked s side ≡ true → moves xs s.passed side ≡ true

  no_marks : (k : ℕ) → MarksMove (at_step k)
  no_marks k Delivery e = absurd (subst T (sym e) tt)
  no_marks k Payment e = absurd (subst T (sym e) tt)

  -- a side that is still to be reported moves and isn't marked
  module _ (s : Session) (side : Side) (e : awaited xs s side ≡ true) where
    pub awaited_moves : moves xs s.passed side ≡ true
    unfolding awaited
    awaited_moves = ((and-eq-true_iff _ (not (marked s side))).0 e).0

    pub awaited_unmarked : marked s side ≡ false
    unfolding awaited
    awaited_unmarked = not-true _ ((and-eq-true_iff (moves xs s.passed side) _).0 e).1

  settle_sound : (n : ℕ) (s : Session) → s.passed + n ≡ length xs → MarksMove s → Sound xs (settle xs n s)
  unfolding settle
  settle_sound zero s e m = record { within = omega arith; left = λ (l : s.passed < length xs). absurd (omega arith); marks_move = m }
  settle_sound (suc n) s e m = go (done xs s) refl (settle_sound n (at_step (suc s.passed)) (omega arith) (no_marks (suc s.passed)))
    where
      go : (b : Bool) → done xs s ≡ b → Sound xs (settle xs n (at_step (suc s.passed))) → Sound xs (settle xs (suc n) s)
      go true d next = rw (settle_passes xs s n d) next
      go false d next = rw (settle_stays xs s (suc n) d) (record { within = omega arith; left = λ _. d; marks_move = m })

  settled_sound : (s : Session) → s.passed ≤ length xs → MarksMove s → Sound xs (settled xs s)
  settled_sound s h m = settle_sound (length xs - s.passed) s (omega arith) m

  opened_sound : Sound xs (opened xs)
  opened_sound = settle_sound (length xs) (at_step 0) (omega arith) (no_marks 0)

  mark_moves : (s : Session) → MarksMove s → (side : Side) → moves xs s.passed side ≡ true → MarksMove (mark s side)
  mark_moves s m Delivery h Delivery e = h
  mark_moves s m Delivery h Payment e = m Payment e
  mark_moves s m Payment h Delivery e = m Delivery e
  mark_moves s m Payment h Payment e = h

  mark_passed : (s : Session) (side : Side) → (mark s side).passed ≡ s.passed
  mark_passed s Delivery = refl
  mark_passed s Payment = refl

  -- a report that fits names the open step's entry of a side that is still to be reported
  module _ (s : Session) (side : Side) (n : ℕ) (e : fits xs s side n ≡ true) where
    pub fit_entry : n ≡ entry_of side (after start xs (suc s.passed))
    unfolding fits
    fit_entry = eqb-true _ _ ((and-eq-true_iff _ (awaited xs s side)).0 e).0

    fit_awaited : awaited xs s side ≡ true
    unfolding fits
    fit_awaited = ((and-eq-true_iff (eqb n (entry_of side (after start xs (suc s.passed)))) _).0 e).1

  module _ (s : Session) (g : Sound xs s) (side : Side) (n : ℕ) where
    mark_sound : fits xs s side n ≡ true → Sound xs (settled xs (mark s side))
    mark_sound e =
        settled_sound (mark s side) (rw (mark_passed s side) g.within)
        (mark_moves s g.marks_move side (awaited_moves s side (fit_awaited s side n e)))

    report_sound : Sound xs (session_after s (report_on xs s side n))
    unfolding report_on
    report_sound = go (finished_by (length xs) s) (fits xs s side n) refl refl
      where
        go : (b c : Bool) → finished_by (length xs) s ≡ b → fits xs s side n ≡ c → Sound xs (session_after s (report_on xs s side n))
        go true c e f = rw e g
        go false true e f = rw (e, f) (mark_sound f)
        go false false e f = rw (e, f) g

  reports_sound : (s : Session) → Sound xs s → (rs : List Report) → Sound xs (after_reports xs s rs)
  reports_sound s g [] = g
  reports_sound s g (r ∷ rs) = reports_sound (session_after s (report_on xs s r.side r.number)) (report_sound s g r.side r.number) rs

  pub reached_sound : (rs : List Report) → Sound xs (reached_by xs rs)
  reached_sound rs = reports_sound (opened xs) opened_sound rs
