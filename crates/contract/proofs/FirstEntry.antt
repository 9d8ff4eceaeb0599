-- What the tests of a contract's lists say of the first entry. Assumes nothing.
use mathlib.Core.Path.{◌≡◌}
use mathlib.Core.Bool.{true, and-eq-true_iff}
use mathlib.Core.List.{List, ◌∷◌}
use Prim.Native.Nat.{ℕ, ◌≤◌, ◌<◌}
use borrow.Author.Tests.{leb-true, ltb-true}
use Rattle.contract.specs.Contract.{limit}
use Rattle.contract.specs.Table.{all_within}
use Rattle.contract.specs.Valid.{units_in_range}

pub units_first : (u : ℕ) (us : List ℕ) → units_in_range (u ∷ us) ≡ true → (0 < u) × (u ≤ 255) × (units_in_range us ≡ true)
unfolding units_in_range
units_first u us h = let b = simp and-eq-true_iff at h in (ltb-true 0 u b.0.0, leb-true u 255 b.0.1, b.1)

pub within_first : (a : ℕ) (rest : List ℕ) → all_within (a ∷ rest) ≡ true → (a ≤ limit) × (all_within rest ≡ true)
unfolding all_within
within_first a rest h = let b = simp and-eq-true_iff at h in (leb-true a limit b.0, b.1)
