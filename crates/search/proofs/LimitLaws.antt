-- The caps and the floors of the rows, and which rows hold which. Assumes nothing.
use mathlib.Core.Path.{◌≡◌, refl}
use mathlib.Core.Bool.{Bool, true, false}
use mathlib.Core.List.{List}
use Prim.Native.Nat.{ℕ, ◌≤◌, ◌<◌}
use native.Mathlib.Decide.{dec_lt}
use native.Mathlib.Omega.{arith}
use lib.ListN.{length, get_or, replicate, length-replicate, get_or-replicate, get_or-eq_default}
use Rattle.grid.specs.Rows.{rows_of}
use Rattle.exchange.specs.Forms.{holds_row}
use Rattle.exchange.proofs.TablePlan.RowUnits.{holds_rises}
use Rattle.search.specs.Layers.{Lists, Each}

-- ---- the limits of the rows

pub each_none : (answer : ℕ → ℕ → Type 0) (cells : List ℕ) → Each answer cells (replicate 128 0) 0
each_none answer cells =
    record { long = length-replicate {A = ℕ} 128 0; entry = λ a l. absurd (omega arith); rest = λ a l. zero_at a (dec_lt a 128) }
  where
    zeros : List ℕ
    zeros = replicate 128 0

    zero_at : (a : ℕ) → Dec (a < 128) → get_or zeros a 0 ≡ 0
    zero_at a (yes l) = get_or-replicate 128 a 0 0 l
    zero_at a (no n) =
        let past : length zeros ≤ a = omega (arith, length-replicate {A = ℕ} 128 0) in
        get_or-eq_default zeros 0 past

-- where each answer is a number
pub each_lists : {answer : ℕ → ℕ → Type 0} {cells array : List ℕ} {n : ℕ} (f : ℕ → ℕ) → Each answer cells array n
    → ((a v : ℕ) → a < n → answer (get_or cells a 0) v → v ≡ f a) → Lists f array n
each_lists f h same = record { long = h.long; entry = λ a l. same a _ l (h.entry a l); rest = h.rest }

-- ---- rows held

-- no row below row a holds its units
pub not_held : (us : List ℕ) (a b : ℕ) → a < rows_of us → b < a → holds_row us a b ≡ false
not_held us a b h l = go (holds_row us a b) refl
  where
    go : (x : Bool) → holds_row us a b ≡ x → x ≡ false
    go true e = absurd (omega (arith, holds_rises us a b h (omega arith) (rw e tt)))
    go false e = refl
