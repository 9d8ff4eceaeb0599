-- Sums of units. Assumes nothing.
use mathlib.Core.Path.{◌≡◌, refl}
use mathlib.Core.List.{List}
use Prim.Native.Nat.{ℕ, ◌≤◌}
use lib.ListN.{length}
use borrow.Author.Tests.{le-leb}
use Rattle.std.specs.List.{sum as std_sum}
use Rattle.std.proofs.lemmas.List.Recursion.{is_sum_by}
use Rattle.contract.specs.Valid.{sum}
use Rattle.sizes.specs.Units.{units_few}

-- at most eight items
pub units_few_lem : (us : List ℕ) → length us ≤ 8 → units_few us ≡ sum us
unfolding units_few
units_few_lem us h = rw (le-leb _ _ h) refl

-- units as the library adds them
pub sum_is : (us : List ℕ) → length us ≤ 8 → std_sum us ≡ units_few us
unfolding sum
sum_is us h = rw (units_few_lem us h, is_sum_by sum (λ x. x) refl (λ _ _. refl) us)
