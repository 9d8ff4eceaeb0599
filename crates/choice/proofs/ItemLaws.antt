-- Amounts, running sums and the choice of the next item. Assumes nothing.
use mathlib.Core.Path.{◌≡◌, refl}
use mathlib.Core.Bool.{Bool, false, ◌&&◌, and-true, and_comm}
use mathlib.Core.List.{List, [], ◌∷◌, ◌++◌}
use Prim.Native.Nat.{ℕ, zero, suc, ◌+◌, ◌*◌, ◌<◌}
use native.Mathlib.Nat.{add-zero}
use native.Mathlib.Numerals.{add-one}
use native.Mathlib.Omega.{arith}
use lib.Dec.{leb, eqb}
use lib.ListN.{get_or}
use Rattle.exchange.specs.Forms.{occurs}
use Rattle.exchange.specs.Chosen.{at}
use Rattle.exchange.specs.Choice.{End, sum_over, all_items, fits, better, best}
use Rattle.choice.specs.Ends.{left_of, with_slack}

pub total_next : (units : List ℕ) (w : ℕ → ℕ) (j : ℕ) → sum_over units w (all_items (j + 1)) ≡ sum_over units w (all_items j) + at units j * w j
unfolding sum_over all_items
total_next units w j = rw (add-one j) (omega arith)

pub sum_one : (units : List ℕ) (w : ℕ → ℕ) (done : List ℕ) (j : ℕ) → sum_over units w (done ++ (j ∷ [])) ≡ sum_over units w done + at units j * w j
unfolding sum_over
sum_one units w [] j = omega arith
sum_one units w (i ∷ done) j = omega (arith, sum_one units w done j)

-- where nothing is placed yet
pub fits_first : (e : End) (j : ℕ) → fits e [] j ≡ (e.mine j && leb (e.taken + e.needs j) e.added)
unfolding fits sum_over occurs
fits_first e j = simp (and-true, add-zero)

-- choosing among the items left, at the slack there, is choosing after the items that were placed
module _ (e : End) (done : List ℕ) (todo : List Bool) (added taken : ℕ)
    (ea : added ≡ e.added + sum_over e.units e.gives done)
    (et : taken ≡ e.taken + sum_over e.units e.needs done)
  where
    fits_left : (j : ℕ) → get_or todo j false ≡ eqb (occurs j done) 0 → fits (left_of (with_slack e added taken) todo) [] j ≡ fits e done j
    unfolding fits
    fits_left j m = rw (fits_first (left_of (with_slack e added taken) todo) j, m, ea, et, and_comm (eqb (occurs j done) 0) (e.mine j))

    pub best_left : (k : ℕ) → ((j : ℕ) → j < k → get_or todo j false ≡ eqb (occurs j done) 0)
        → best (left_of (with_slack e added taken) todo) [] k ≡ best e done k
    unfolding best better
    best_left zero m = refl
    best_left (suc k) m = rw (best_left k (λ j h. m j (omega arith)), fits_left k (m k (omega arith)))
