-- The answers to a brought plan. Assumes nothing.
use mathlib.Core.Path.{◌≡◌, refl, sym, ◌∙◌, subst}
use mathlib.Core.Bool.{Bool, true, false, ◌&&◌, and-eq-true_iff, true≢false, false≢true}
use mathlib.Core.List.{List}
use Prim.Native.Nat.{ℕ, ◌≤◌}
use lib.Dec.{leb}
use lib.ListN.{length}
use borrow.Author.Tests.{le-leb, leb-true}
use Rattle.std.proofs.Common.{Result, Ok, Err, IsOk}
use Rattle.area.specs.Entries.{entries}
use Rattle.contract.specs.Res.{refused, ok, test}
use Rattle.contract.specs.Contract.{Contract}
use Rattle.contract.specs.Parse.{parse}
use Rattle.exchange.specs.Deal.{Deal, State}
use Rattle.exchange.specs.PlanIn.{plan_in}
use Rattle.exchange.specs.declared.Sides.{Sides}
use Rattle.exchange.specs.declared.Unfit.{Unfit}
use Rattle.line.specs.Segments.{deal_along}
use Rattle.line.specs.CheckPromise as line
use Rattle.line.specs.CheckCode.{Judges}
use Rattle.planning.specs.Order.{names_order, deal_by}
use Rattle.planning.proofs.AlongOrder.{Along}
use Rattle.planning.specs.Check.{holds_count, SafeAlong, ahead_of_check, Checks}
use Rattle.checks.specs.Brought.{IsBrought, Decides, steps_of}
use Rattle.checks.specs.declared.brought.Brought.{Brought}

-- ---- the answer along segments

-- segments that the areas hold are not refused, and the answer decides
module _ (s : Sides) (us cs vs : List ℕ) (count : ℕ) (places sums : List ℕ) (h : line.holds_count us cs vs count places sums ≡ true)
    (r : Result Bool Unfit) (a : line.Checks s us cs vs count places sums r) where
  pub line_fits : IsOk r
  line_fits = go r a
    where
      go : (y : Result Bool Unfit) → line.Checks s us cs vs count places sums y → IsOk y
      go (Ok b) g = refl
      go (Err e) g = absurd (true≢false (sym h ∙ g))

  pub line_judges : (b : Bool) → r ≡ Ok b → Judges (deal_along s us cs vs) (plan_in count places sums) b
  line_judges b e = go b (subst (line.Checks s us cs vs count places sums) e a)
    where
      go : (c : Bool) → line.Checks s us cs vs count places sums (Ok c) → Judges (deal_along s us cs vs) (plan_in count places sums) c
      go true g = record { yes = λ _. g.1; no = λ e. absurd (true≢false e) }
      go false g = record { yes = λ e. absurd (false≢true e); no = λ _. g.1 }

-- the entries that the areas have
pub held_entries : (count : ℕ) (places sums : List ℕ) → holds_count count places sums ≡ true → (count ≤ length (entries 2 places)) × (count ≤ length (entries 4 sums))
unfolding holds_count
held_entries count places sums e = let f = (and-eq-true_iff (leb count (length (entries 2 places))) _).0 e in (leb-true _ _ f.0, leb-true _ _ f.1)

-- ---- the answer by the order bytes

module _ (k : Contract) (b : Brought) where
  pub named : names_order k b.order.now ≡ true → {r : Bool} → Judges (deal_by k b.order.now) (steps_of b) r → Decides k b r
  named e j = record { yes = λ f. record { named = e; plan = j.yes f }; no = λ f p. j.no f p.plan }

-- the same for the same contract
pub decides_same : (b : Brought) {k j : Contract} {r : Bool} → k ≡ j → Decides j b r → Decides k b r
decides_same b {k} {j} {r} e d = subst (λ (i : Contract). Decides i b r) (sym e) d

-- the same along segments that stand for the deal
pub judges_along : {s : Sides} {us cs vs : List ℕ} {d : Deal} → Along s us cs vs d → {xs : List State} {r : Bool} → Judges (deal_along s us cs vs) xs r → Judges d xs r
judges_along a {xs} {r} j = subst (λ (y : Deal). Judges y xs r) a.deal_is j

-- ---- the answer for a record

module _ (bytes : List ℕ) (count : ℕ) (places sums order : List ℕ) where
  pub check_refused : {n : ℕ} → parse bytes ≡ refused n → Checks (ahead_of_check bytes count places sums order) (refused n) order (plan_in count places sums)
  unfolding ahead_of_check
  check_refused e = rw e refl

  -- an area is too short
  pub check_short : {k : Contract} → parse bytes ≡ ok k → (holds_count count places sums && leb 8 (length order)) ≡ false
      → Checks (ahead_of_check bytes count places sums order) (refused 8) order (plan_in count places sums)
  unfolding ahead_of_check
  check_short {k} e f = rw e (go (holds_count count places sums) (leb 8 (length order)) f)
    where
      go : (h l : Bool) → (h && l) ≡ false → Checks (test 8 h (test 8 l (ok k))) (refused 8) order (plan_in count places sums)
      go true true f = absurd (true≢false f)
      go true false f = refl
      go false l f = refl

  -- else by the test of the plan
  module _ {k : Contract} (says : parse bytes ≡ ok k) {b : Brought} (is : IsBrought b count places sums order) {r : Bool} (d : Decides k b r) where
    room : (holds_count count places sums ≡ true) × (8 ≤ length order)
    room = rw (← is.count_is, ← is.places_are, ← is.sums_are, ← is.order_is) (b.held, b.eight)

    safe_along : SafeAlong k b.order.now (steps_of b) → SafeAlong k order (plan_in count places sums)
    safe_along p = rw (is.count_is, is.places_are, is.sums_are, is.order_is) at p

    along_safe : SafeAlong k order (plan_in count places sums) → SafeAlong k b.order.now (steps_of b)
    along_safe p = rw (← is.count_is, ← is.places_are, ← is.sums_are, ← is.order_is) at p

    pub check_safe : r ≡ true → Checks (ahead_of_check bytes count places sums order) (ok tt) order (plan_in count places sums)
    unfolding ahead_of_check
    check_safe e = rw (says, room.0, le-leb 8 (length order) room.1) (safe_along (d.yes e))

    pub check_unsafe : r ≡ false → Checks (ahead_of_check bytes count places sums order) (refused 12) order (plan_in count places sums)
    unfolding ahead_of_check
    check_unsafe e = rw (says, room.0, le-leb 8 (length order) room.1) (refl, λ p. d.no e (along_safe p))
