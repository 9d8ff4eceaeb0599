-- The cells of a grid are within the limit where those given are. Assumes nothing.
use mathlib.Core.Path.{◌≡◌, refl}
use mathlib.Core.Bool.{Bool, true, false, cond}
use mathlib.Core.List.{List, [], ◌∷◌, ◌++◌}
use Prim.Native.Nat.{ℕ, zero, suc, ◌+◌, ◌-◌, ◌/◌, ◌%◌, ◌≤◌}
use native.Mathlib.Nat.{max-le}
use native.Mathlib.Omega.{arith}
use lib.Dec.{ltb}
use lib.ListN.{get_or}
use borrow.Author.Tests.{le-leb}
use Rattle.grid.specs.Rows.{rows_of, less_one, largest_below}
use Rattle.grid.specs.Map.{stands, standing}
use Rattle.grid.specs.Cells.{cell_of, filled}
use Rattle.contract.specs.Contract.{limit}
use Rattle.contract.specs.Table.{all_within}
use Rattle.contract.proofs.FirstEntry.{within_first}

-- past the end too, where 0 is read
within_at : (xs : List ℕ) (k : ℕ) → all_within xs ≡ true → get_or xs k 0 ≤ limit
within_at [] k e = omega arith
within_at (x ∷ xs) zero e = (within_first x xs e).0
within_at (x ∷ xs) (suc k) e = within_at xs k (within_first x xs e).1

within_last : (xs : List ℕ) (a : ℕ) → all_within xs ≡ true → a ≤ limit → all_within (xs ++ (a ∷ [])) ≡ true
unfolding all_within
within_last [] a e h = rw (le-leb a limit h)
within_last (x ∷ xs) a e h =
    let (first, rest) = within_first x xs e in
    rw (le-leb x limit first) (within_last xs a rest h)

cond_le : (t : Bool) (a b n : ℕ) → a ≤ n → b ≤ n → cond t a b ≤ n
cond_le true a b n h g = h
cond_le false a b n h g = g

largest_le : (us cells : List ℕ) (r n : ℕ) → ((k : ℕ) → get_or cells k 0 ≤ n) → largest_below us cells r ≤ n
unfolding largest_below less_one
largest_le [] cells r n h = omega arith
largest_le (u ∷ us) cells r n h =
    let k : ℕ = rows_of us in
    max-le (largest_le us cells r n h) (cond_le (ltb 0 (r / k % (u + 1))) (get_or cells (r - k) 0) 0 n (h (r - k)) (omega arith))

-- each cell is given, or the largest of some before it
pub filled_within : (us map gs : List ℕ) (n : ℕ) → all_within gs ≡ true → all_within (filled us map gs n) ≡ true
unfolding filled all_within
filled_within us map gs zero e = refl
filled_within us map gs (suc r) e =
    let cells : List ℕ = filled us map gs r in
    let rest : all_within cells ≡ true = filled_within us map gs r e in
    let given : get_or gs (standing map r) 0 ≤ limit = within_at gs (standing map r) e in
    let blank : largest_below us cells r ≤ limit = largest_le us cells r limit (λ k. within_at cells k rest) in
    within_last cells (cell_of us map gs cells r) rest (cond_le (stands map r) _ _ limit given blank)
