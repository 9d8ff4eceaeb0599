-- What the entries on sessions answer, and what they leave in the area. Assumes nothing.
use mathlib.Core.Path.{◌≡◌, refl, subst, ◌∙◌}
use mathlib.Core.Bool.{Bool, true, false, cond, not}
use mathlib.Core.List.{List}
use Prim.Native.Nat.{ℕ, ◌≤◌, ◌<◌}
use borrow.Author.Tests.{le-leb, lt-leb}
use lib.ListN.{length}
use Rattle.contract.specs.Res.{Res, refused, test}
use Rattle.planning.specs.Check.{holds_count}
use Rattle.session.specs.Session.{finished_by}
use Rattle.session.specs.declared.Plan.{Plan}
use Rattle.session.specs.declared.Session.{Session}
use Rattle.session.proofs.PlanLaws.{count_held, held_length}
use Rattle.yolkgorge.specs.SessionBytes.{session_in}
use Rattle.yolkgorge.specs.Sessions.{Leaves, report_nowhere, report_by, report_from}

-- ---- a report on no side

module _ (p : Plan) (s : Session) {r : Bool} (e : r ≡ holds_count p.count p.places.now p.sums.now) where
  pub nowhere_short : r ≡ false → refused 8 ≡ report_nowhere p.count p.places.now p.sums.now s
  unfolding report_nowhere
  nowhere_short h = rw (← e, h)

  pub nowhere_held : r ≡ true → {f : Bool} → f ≡ finished_by p.count s → (b : Bool) → f ≡ b
      → refused (cond b 11 10) ≡ report_nowhere p.count p.places.now p.sums.now s
  unfolding report_nowhere
  nowhere_held h i b j = rw (← e, h, held_length p (count_held p e h), ← i, j) (go b)
    where
      go : (b : Bool) → ◌≡◌ {A = Res Session} (refused (cond b 11 10)) (test 11 (not b) (refused 10))
      go true = refl
      go false = refl

-- ---- a report by the number of its side

module _ (s : List ℕ) (count : ℕ) (places sums : List ℕ) (side n r : ℕ) where
  pub from_short : length s < 10 → Leaves (report_from s count places sums side n) 8 s s
  unfolding report_from
  from_short h = rw (lt-leb 10 (length s) h) (record { number_is = refl; area_is = refl })

  module _ (h : 10 ≤ length s) where
    from_side : report_by count places sums (session_in s) side n ≡ report_from s count places sums side n
    unfolding report_from
    from_side = rw (le-leb 10 (length s) h)

    pub from_kept : {said : Res Session} {u : List ℕ} → said ≡ report_by count places sums (session_in s) side n → Leaves said r s u
        → Leaves (report_from s count places sums side n) r s u
    from_kept {said} {u} e l = subst (λ (z : Res Session). Leaves z r s u) (e ∙ from_side) l
