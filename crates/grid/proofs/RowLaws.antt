-- Laws of the rows of a table: how many there are, the largest cell one unit below, and rising. Assumes nothing.
use mathlib.Core.Path.{◌≡◌, refl, sym, ap, ap₂, ◌∙◌}
use mathlib.Core.Bool.{Bool, true, false, cond, ◌&&◌, and-eq-true_iff}
use mathlib.Core.List.{List, [], ◌∷◌, ◌++◌}
use Prim.Native.Nat.{ℕ, zero, suc, ◌+◌, ◌-◌, ◌*◌, ◌/◌, ◌%◌, ◌≤◌, ◌<◌, max}
use native.Mathlib.Nat.{add_assoc, div-add-mod, mod-lt, mod-eq_of_lt, mul-add, mul-add-mod_self_left, mul_assoc, mul-one, mul-suc, mul-le-mul_left, div-eq_of_lt, mod-le, le_trans, le-mul_of_pos_right, mul_comm, mul_right_comm, mul-pos}
use native.Mathlib.Numerals.{add-one}
use native.Mathlib.Decide.{dec_lt}
use native.Mathlib.Omega.{arith}
use borrow.Author.Tests.{ltb-true, leb-true}
use lib.Dec.{ltb, leb}
use lib.ListN.{length, get_or, take, drop, get_or-append}
use lib.Seq.{drop-cons, drop-length}
use Rattle.std.proofs.lemmas.List.{take_more}
use Rattle.grid.specs.Rows.{rows_of, less_one, largest_below, rising}

-- ---- rounds of k * n rows

-- the rest by a product, digit by digit
pub rest_mul : (r k n : ℕ) → 0 < k → 0 < n → r % (k * n) ≡ k * (r / k % n) + r % k
rest_mul r k n a b =
    let q : ℕ = r / k in
    let d : ℕ = q % n in
    let low : r % k < k = mod-lt r a in
    let high : d < n = mod-lt q b in
    let in_round : k * d + k ≤ k * n = rw mul-suc at (mul-le-mul_left k high) in
    let split : r ≡ k * n * (q / n) + (k * d + r % k) =
    sym (div-add-mod r k) ∙ ap (λ (x : ℕ). k * x + r % k) (sym (div-add-mod q n)) ∙ rw (mul-add, ← mul_assoc, add_assoc) in
    ap (λ (x : ℕ). x % (k * n)) split ∙ mul-add-mod_self_left (k * n) (q / n) (k * d + r % k) ∙ mod-eq_of_lt (omega arith)

-- ---- the number of rows

pub rows_pos : (us : List ℕ) → 0 < rows_of us
unfolding rows_of
rows_pos [] = omega arith
rows_pos (u ∷ us) = mul-pos (rows_pos us) (omega arith)

-- fewer items have no more rows
pub rows_drop : (j : ℕ) (us : List ℕ) → rows_of (drop j us) ≤ rows_of us
unfolding rows_of
rows_drop zero us = omega arith
rows_drop (suc j) [] = omega arith
rows_drop (suc j) (u ∷ us) = le_trans (rows_drop j us) (le-mul_of_pos_right {m = u + 1} (rows_of us) (omega arith))

-- the rows of all items are rounds of the rows of the last ones
pub rows_split : (j : ℕ) (us : List ℕ) → rows_of us ≡ rows_of (drop j us) * rows_of (take j us)
unfolding rows_of
rows_split zero us = sym (mul-one (rows_of us))
rows_split (suc j) [] = refl
rows_split (suc j) (u ∷ us) = rw (rows_split j us) (mul_assoc (rows_of (drop j us)) (rows_of (take j us)) (u + 1))

-- the first items have no more rows than all
pub rows_take : (j : ℕ) (us : List ℕ) → rows_of (take j us) ≤ rows_of us
rows_take j us = rw (rows_split j us, mul_comm) (le-mul_of_pos_right (rows_of (take j us)) (rows_pos (drop j us)))

-- one item more, from the front
rows_snoc : (us : List ℕ) (u : ℕ) → rows_of (us ++ (u ∷ [])) ≡ rows_of us * (u + 1)
unfolding rows_of
rows_snoc [] u = refl
rows_snoc (x ∷ us) u = rw (rows_snoc us u) (mul_right_comm (rows_of us) (u + 1) (x + 1))

pub rows_take_more : (j : ℕ) (us : List ℕ) → j < length us → rows_of (take (j + 1) us) ≡ rows_of (take j us) * (get_or us j 0 + 1)
rows_take_more j us h = rw (take_more us j 0 h) (rows_snoc (take j us) (get_or us j 0))

-- one item more, from the end
pub rows_cons : (j : ℕ) (us : List ℕ) → j < length us → rows_of (drop j us) ≡ rows_of (drop (j + 1) us) * (get_or us j 0 + 1)
unfolding rows_of
rows_cons j us h = rw (add-one j, drop-cons us j 0 h)

pub rows_end : (us : List ℕ) → rows_of (drop (length us) us) ≡ 1
unfolding rows_of
rows_end us = rw (drop-length us)

-- one turn of a walk over the items from the last to the first
pub rows_turn : (j k n : ℕ) (us : List ℕ) → 0 < j → j ≤ length us → k ≡ rows_of (drop j us) → n ≡ get_or us (j - 1) 0 + 1
    → k * n ≡ rows_of (drop (j - 1) us)
rows_turn j k n us p h e f =
    let q : j - 1 + 1 ≡ j = omega arith in
    sym (rows_cons (j - 1) us (omega arith) ∙ rw (q, ← e, ← f))

-- ---- the largest cell one unit below

-- a row with a unit of an item is not below the rows of one unit of it
unit_le : (r k : ℕ) → 0 < r / k → k ≤ r
unit_le r k h = go (dec_lt r k)
  where
    go : Dec (r < k) → k ≤ r
    go (yes l) = let z : r / k ≡ 0 = div-eq_of_lt l in absurd (omega arith)
    go (no m) = omega arith

pub has_unit : (r k n : ℕ) → 0 < r / k % n → k ≤ r
has_unit r k n h = unit_le r k (omega (arith, mod-le (r / k) n))

-- one item more, from the end
pub largest_cons : (j : ℕ) (us cells : List ℕ) (r : ℕ) → j < length us
    → largest_below (drop j us) cells r ≡ max (largest_below (drop (j + 1) us) cells r) (less_one (get_or us j 0) (rows_of (drop (j + 1) us)) cells r)
unfolding largest_below
largest_cons j us cells r h = rw (add-one, drop-cons us j 0 h)

less_one_ext : (u k : ℕ) (xs ys : List ℕ) (r : ℕ) → 0 < k → ((i : ℕ) → i < r → get_or xs i 0 ≡ get_or ys i 0) → less_one u k xs r ≡ less_one u k ys r
unfolding less_one
less_one_ext u k xs ys r p h = go (ltb 0 (r / k % (u + 1))) refl
  where
    go : (t : Bool) → ltb 0 (r / k % (u + 1)) ≡ t → cond t (get_or xs (r - k) 0) 0 ≡ cond t (get_or ys (r - k) 0) 0
    go true e =
        let l : k ≤ r = has_unit r k (u + 1) (ltb-true _ _ e) in
        h (r - k) (omega arith)
    go false e = refl

-- only the rows before r count
pub largest_ext : (us xs ys : List ℕ) (r : ℕ) → ((i : ℕ) → i < r → get_or xs i 0 ≡ get_or ys i 0) → largest_below us xs r ≡ largest_below us ys r
unfolding largest_below
largest_ext [] xs ys r h = refl
largest_ext (u ∷ us) xs ys r h = ap₂ max (largest_ext us xs ys r h) (less_one_ext u (rows_of us) xs ys r (rows_pos us) h)

pub largest_front : (us xs ys : List ℕ) (r : ℕ) → r ≤ length xs → largest_below us (xs ++ ys) r ≡ largest_below us xs r
largest_front us xs ys r h = largest_ext us (xs ++ ys) xs r (λ i l. get_or-append xs ys 0 i (omega arith))

-- ---- rising

pub rising_ext : (us xs ys : List ℕ) (n : ℕ) → ((i : ℕ) → i < n → get_or xs i 0 ≡ get_or ys i 0) → rising us xs n ≡ rising us ys n
unfolding rising
rising_ext us xs ys zero h = refl
rising_ext us xs ys (suc n) h =
    ap₂ ◌&&◌ (rising_ext us xs ys n (λ i l. h i (omega arith)))
    (ap₂ leb (largest_ext us xs ys n (λ i l. h i (omega arith))) (h n (omega arith)))

-- rising so far, and the last cell is not below the largest one unit below
pub rising_last : (us cells : List ℕ) (r : ℕ) → rising us cells (suc r) ≡ true → (rising us cells r ≡ true) × (largest_below us cells r ≤ get_or cells r 0)
unfolding rising
rising_last us cells r e =
    let both = (and-eq-true_iff (rising us cells r) (leb (largest_below us cells r) (get_or cells r 0))).0 e in
    (both.0, leb-true _ _ both.1)

-- so no cell of the first n rows is below the largest one unit below
pub rising_at : (us cells : List ℕ) (n : ℕ) → rising us cells n ≡ true → (r : ℕ) → r < n → largest_below us cells r ≤ get_or cells r 0
rising_at us cells zero e r h = absurd (omega arith)
rising_at us cells (suc n) e r h =
    let split = rising_last us cells n e in
    go (rising_at us cells n split.0 r) split.1 (dec_lt r n)
  where
    go : (r < n → largest_below us cells r ≤ get_or cells r 0) → largest_below us cells n ≤ get_or cells n 0 → Dec (r < n)
        → largest_below us cells r ≤ get_or cells r 0
    go before here (yes l) = before l
    go before here (no m) = let same : r ≡ n = omega arith in rw same here
