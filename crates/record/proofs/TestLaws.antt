-- Laws of the writer's tests, item by item and amount by amount. Assumes nothing.
use mathlib.Core.Path.{◌≡◌, refl, sym, ap}
use mathlib.Core.Bool.{Bool, true, false, ◌&&◌, and-true, and-false, and_assoc}
use mathlib.Core.List.{List, [], ◌∷◌}
use Prim.Native.Nat.{ℕ, zero, suc, ◌+◌, ◌-◌, ◌*◌, ◌≤◌, ◌<◌}
use native.Mathlib.Nat.{le-mul_of_pos_right, mul_comm}
use native.Mathlib.Numerals.{add-one}
use native.Mathlib.Omega.{arith}
use borrow.Author.Tests.{le-leb, lt-leb, leb-true, leb-false}
use lib.Dec.{ltb, leb}
use lib.ListN.{length, get_or, drop, replicate, length-replicate, drop_of_length-le}
use lib.Seq.{drop-cons}
use Rattle.std.specs.List.{list_all, sum_by}
use Rattle.std.proofs.lemmas.List.Recursion.{is_sum_by}
use Rattle.contract.specs.Contract.{Contract, limit}
use Rattle.contract.specs.Table.{all_within}
use Rattle.contract.specs.Valid.{units_in_range, sum, total, amounts_within, within_limit}
use Rattle.contract.specs.declared.Form.TheVariants.{Ladder, UnitPrices}
use Rattle.contract.proofs.FirstEntry.{units_first}
use Rattle.record.specs.View.Write.{each}
use Rattle.record.proofs.PutLaws.{each_length, each_at, each_none, each_stated, each_past}

-- ---- item by item

module _ (us : List ℕ) (i : ℕ) (h : i < length us) where
  within_cons : all_within (drop i us) ≡ (leb (get_or us i 0) limit && all_within (drop (i + 1) us))
  unfolding all_within
  within_cons = rw (add-one, drop-cons us i 0 h)

  -- with the amounts before i within the limit or not
  pub within_both : (b : Bool) {c : Bool} → c ≡ (b && leb (get_or us i 0) limit) → (c && all_within (drop (i + 1) us)) ≡ (b && all_within (drop i us))
  within_both b e = rw (e, within_cons) (and_assoc b (leb (get_or us i 0) limit) (all_within (drop (i + 1) us)))

module _ (us : List ℕ) (i : ℕ) (h : length us ≤ i) where
  pub within_end : all_within (drop i us) ≡ true
  unfolding all_within
  within_end = rw (drop_of_length-le us {i = i} h)

-- the same, as std's words say it
pub range_all : (us : List ℕ) → list_all (λ u. ltb 0 u && leb u 255) us ≡ units_in_range us
unfolding units_in_range
range_all [] = refl
range_all (u ∷ us) = ap (λ b. (ltb 0 u && leb u 255) && b) (range_all us)

pub sum_all : (us : List ℕ) → sum us ≡ sum_by (λ n. n) us
unfolding sum
sum_all us = is_sum_by sum (λ n. n) refl (λ _ _. refl) us

pub within_all : (xs : List ℕ) → list_all (λ v. leb v limit) xs ≡ all_within xs
unfolding all_within
within_all [] = refl
within_all (x ∷ xs) = ap (λ b. leb x limit && b) (within_all xs)

-- the test of a contract, part by part
pub within_is : (k : Contract) → within_limit k
    ≡ (all_within (k.price ∷ k.supplier ∷ k.buyer ∷ []) && (amounts_within k.form k.units k.costs && amounts_within k.form k.units k.values))
unfolding within_limit all_within
within_is k = simp (and_assoc, and-true)

within_each : (xs : List ℕ) → ((r : ℕ) → r < length xs → get_or xs r 0 ≤ limit) → all_within xs ≡ true
unfolding all_within
within_each [] h = refl
within_each (x ∷ xs) h = rw (le-leb x limit (h 0 (omega arith))) (within_each xs (λ r l. h (suc r) (omega arith)))

within_not : (xs : List ℕ) (r : ℕ) → limit < get_or xs r 0 → all_within xs ≡ false
unfolding all_within
within_not [] r h = absurd (omega arith)
within_not (x ∷ xs) zero h = rw (lt-leb x limit h)
within_not (x ∷ xs) (suc r) h = rw (within_not xs r h) (and-false (leb x limit))

-- where no amount is above the last one, the test of the last one is the test of all
pub last_within : (xs : List ℕ) → ((r : ℕ) → r < length xs → get_or xs r 0 ≤ get_or xs (length xs - 1) 0)
    → leb (get_or xs (length xs - 1) 0) limit ≡ all_within xs
last_within xs h = go (leb (get_or xs (length xs - 1) 0) limit) refl
  where
    go : (b : Bool) → leb (get_or xs (length xs - 1) 0) limit ≡ b → b ≡ all_within xs
    go true e =
        let low : get_or xs (length xs - 1) 0 ≤ limit = leb-true _ _ e in
        sym (within_each xs (λ r l. omega (arith, h r l)))
    go false e = sym (within_not xs (length xs - 1) (leb-false _ _ e))

-- ---- the total

-- the total of the amounts from amount i on
abbrev pub total_from : List ℕ → List ℕ → ℕ → ℕ
total_from us amounts i = total (drop i (each us (length amounts))) (drop i amounts)

pub total_turn : (us amounts : List ℕ) (i : ℕ) → i < length amounts → total_from us amounts i ≡ get_or us i 1 * get_or amounts i 0 + total_from us amounts (i + 1)
unfolding total
total_turn us amounts i h =
    let l : i < length (each us (length amounts)) = rw each_length h in
    rw (add-one, drop-cons (each us (length amounts)) i 0 l, drop-cons amounts i 0 h, each_at us (length amounts) i h)

pub total_end : (us amounts : List ℕ) (i : ℕ) → length amounts ≤ i → total_from us amounts i ≡ 0
unfolding total
total_end us amounts i h = rw (each_past us (length amounts) i h)

-- an amount over the limit lifts the total over it, since each item has a unit
total_covers : (us amounts : List ℕ) → units_in_range us ≡ true → length us ≡ length amounts → total us amounts ≤ limit → all_within amounts ≡ true
unfolding total all_within
total_covers us [] e l h = refl
total_covers [] (a ∷ amounts) e l h = absurd (omega arith)
total_covers (u ∷ us) (a ∷ amounts) e l h =
    let (low, _, more) = units_first u us e in
    let first : a ≤ u * a = rw mul_comm (le-mul_of_pos_right a low) in
    rw (le-leb a limit (omega arith)) (total_covers us amounts more (omega arith) (omega arith))

total_alone : (us amounts : List ℕ) → units_in_range us ≡ true → length us ≡ length amounts → (all_within amounts && leb (total us amounts) limit) ≡ leb (total us amounts) limit
total_alone us amounts e l = go (leb (total us amounts) limit) refl
  where
    go : (t : Bool) → leb (total us amounts) limit ≡ t → (all_within amounts && t) ≡ t
    go true h = rw (total_covers us amounts e l (leb-true _ _ h))
    go false h = and-false (all_within amounts)

ones_in_range : (n : ℕ) → units_in_range (replicate n 1) ≡ true
unfolding units_in_range
ones_in_range zero = refl
ones_in_range (suc n) = ones_in_range n

pub ladder_within : (us amounts : List ℕ) → us ≡ [] → amounts_within Ladder us amounts ≡ leb (total (each us (length amounts)) amounts) limit
unfolding amounts_within
ladder_within us amounts e = rw (e, each_none) (total_alone (replicate (length amounts) 1) amounts (ones_in_range (length amounts)) (length-replicate (length amounts) 1))

pub prices_within : (us amounts : List ℕ) → units_in_range us ≡ true → length us ≡ length amounts → amounts_within UnitPrices us amounts ≡ leb (total (each us (length amounts)) amounts) limit
unfolding amounts_within
prices_within us amounts e l = rw (← l, each_stated) (total_alone us amounts e l)
