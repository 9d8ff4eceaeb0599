-- Segments that fit a record, and that those of a ladder and of unit prices do. Assumes nothing.
use mathlib.Core.Path.{◌≡◌, refl, sym}
use mathlib.Core.Bool.{Bool, true, false, false≢true}
use mathlib.Core.List.{List, [], ◌∷◌}
use Prim.Native.Nat.{ℕ, ◌≤◌, ◌<◌}
use native.Mathlib.Nat.{suc_inj}
use native.Mathlib.Omega.{arith}
use lib.ListN.{length, replicate}
use Rattle.contract.specs.Contract.{limit}
use Rattle.contract.specs.Table.{all_within}
use Rattle.contract.specs.Valid.{units_in_range}
use Rattle.contract.proofs.FirstEntry.{units_first, within_first}

-- a segment with its units in range, one of a ladder, and its cost and its value within the limit
pub record Fits (p : Bool) (u c v : ℕ) : Type 0 where
  pub low : 0 < u
  pub high : u ≤ 255
  pub single : p ≡ false → u ≡ 1
  pub cost : c ≤ limit
  pub value : v ≤ limit

-- segments that each fit
pub data AllFit (p : Bool) : List ℕ → List ℕ → List ℕ → Type 0 where
  none : AllFit p [] [] []
  more : {u c v : ℕ} {us cs vs : List ℕ} → Fits p u c v → AllFit p us cs vs → AllFit p (u ∷ us) (c ∷ cs) (v ∷ vs)

pub ladder_fits : (cs vs : List ℕ) → length vs ≡ length cs → all_within cs ≡ true → all_within vs ≡ true → AllFit false (replicate (length cs) 1) cs vs
ladder_fits [] [] e a b = none
ladder_fits [] (v ∷ vs) e a b = absurd (omega arith)
ladder_fits (c ∷ cs) [] e a b = absurd (omega arith)
ladder_fits (c ∷ cs) (v ∷ vs) e a b =
    let (cost, cs-in) = within_first c cs a in
    let (value, vs-in) = within_first v vs b in
    more {u = 1} (record { low = omega arith; high = omega arith; single = λ _. refl; cost = cost; value = value }) (ladder_fits cs vs (suc_inj e) cs-in vs-in)

pub prices_fit : (us cs vs : List ℕ) → length cs ≡ length us → length vs ≡ length us → units_in_range us ≡ true → all_within cs ≡ true → all_within vs ≡ true → AllFit true us cs vs
prices_fit [] [] [] e f h a b = none
prices_fit [] [] (v ∷ vs) e f h a b = absurd (omega arith)
prices_fit [] (c ∷ cs) vs e f h a b = absurd (omega arith)
prices_fit (u ∷ us) [] vs e f h a b = absurd (omega arith)
prices_fit (u ∷ us) (c ∷ cs) [] e f h a b = absurd (omega arith)
prices_fit (u ∷ us) (c ∷ cs) (v ∷ vs) e f h a b =
    let (low, high, us-in) = units_first u us h in
    let (cost, cs-in) = within_first c cs a in
    let (value, vs-in) = within_first v vs b in
    more (record { low = low; high = high; single = λ q. absurd (false≢true (sym q)); cost = cost; value = value })
    (prices_fit us cs vs (suc_inj e) (suc_inj f) us-in cs-in vs-in)
