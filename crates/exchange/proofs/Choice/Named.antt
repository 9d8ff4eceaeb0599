-- Items named from 1, each once: nothing else is named, and their units are an order. Assumes nothing.
use mathlib.Core.Path.{◌≡◌, refl, ◌∙◌}
use mathlib.Core.Bool.{true, and-eq-true_iff}
use mathlib.Core.Logic.{◌⊎◌, inl, inr, ⊎_elim, dite}
use mathlib.Core.List.{List, [], ◌∷◌, map, foldr}
use Prim.Native.Nat.{ℕ, zero, suc, ◌+◌, ◌-◌, ◌≤◌, ◌<◌}
use native.Mathlib.Decide.{ℕ_discrete}
use native.Mathlib.Omega.{arith}
use lib.Dec.{eqb, eqb-suc-suc}
use lib.ListN.{length, get_or}
use borrow.Author.Tests.{eqb-true, eq-eqb}
use Rattle.exchange.specs.Forms.{occurs, Order}
use Rattle.exchange.specs.Chosen.{together}
use Rattle.exchange.specs.Choice.{sum_over, all_items}
use Rattle.exchange.specs.Named.{each_once}
use Rattle.exchange.proofs.Choice.Sums.{num, sum, same_cases, once_order, sum_order}

-- ---- each item of a list named from 1

occurs_suc : (j : ℕ) (items : List ℕ) → occurs (suc j) (map suc items) ≡ occurs j items
unfolding occurs
occurs_suc j [] = refl
occurs_suc j (i ∷ items) = rw (eqb-suc-suc i j, occurs_suc j items)

-- items that stand once each are named once each
pub each_once_lem : (items : List ℕ) (n : ℕ) → ((j : ℕ) → j < n → occurs j items ≡ 1) → each_once n (map suc items) ≡ true
unfolding each_once
each_once_lem items zero h = refl
each_once_lem items (suc n) h =
    rw (eq-eqb _ _ (occurs_suc n items ∙ h n (omega arith)), each_once_lem items n (λ j l. h j (omega arith)))

-- ---- what is named where each item is named once

-- the two parts of the test
parts : (n : ℕ) (bs : List ℕ) → each_once (suc n) bs ≡ true → (occurs (suc n) bs ≡ 1) × (each_once n bs ≡ true)
unfolding each_once
parts n bs e = let t = (and-eq-true_iff (eqb (occurs (suc n) bs) 1) (each_once n bs)).0 e in (eqb-true _ _ t.0, t.1)

each_occurs : (n : ℕ) (bs : List ℕ) → each_once n bs ≡ true → (j : ℕ) → j < n → occurs (suc j) bs ≡ 1
each_occurs zero bs e j h = absurd (omega arith)
each_occurs (suc n) bs e j h =
    dite
    (ℕ_discrete j n)
    (λ q. rw q (parts n bs e).0)
    (λ (q : j ≡ n → ⊥). each_occurs n bs (parts n bs e).1 j (omega arith))

-- how many of the items 1 to n an entry names
hits : ℕ → ℕ → ℕ
hits zero b = 0
hits (suc n) b = num (eqb b (suc n)) + hits n b

-- an entry names one item at most
hits_cases : (n b : ℕ) → (hits n b ≡ 0) ⊎ ((hits n b ≡ 1) × (0 < b) × (b ≤ n))
unfolding hits
hits_cases zero b = inl refl
hits_cases (suc n) b =
    ⊎_elim
    (λ z. ⊎_elim (λ s. inr (omega (arith, z, s.1), omega (arith, s.0), omega (arith, s.0))) (λ s. inl (omega (arith, z, s.1))) (same_cases b (suc n)))
    (λ o.
    ⊎_elim
    (λ s. absurd (omega (arith, o.2, s.0)))
    (λ s. inr (omega (arith, o.0, s.1), o.1, omega (arith, o.2)))
    (same_cases b (suc n)))
    (hits_cases n b)

sum_hits : (n : ℕ) (bs : List ℕ) → sum (hits (suc n)) bs ≡ occurs (suc n) bs + sum (hits n) bs
unfolding hits occurs
sum_hits n [] = refl
sum_hits n (b ∷ bs) = omega (arith, sum_hits n bs)

sum_each : (n : ℕ) (bs : List ℕ) → each_once n bs ≡ true → sum (hits n) bs ≡ n
unfolding hits each_once
sum_each zero [] e = refl
sum_each zero (b ∷ bs) e = omega (arith, sum_each zero bs refl)
sum_each (suc n) bs e = omega (arith, sum_hits n bs, (parts n bs e).0, sum_each n bs (parts n bs e).1)

hits_most : (n : ℕ) (bs : List ℕ) → sum (hits n) bs ≤ length bs
hits_most n [] = omega arith
hits_most n (b ∷ bs) =
    ⊎_elim (λ z. omega (arith, z, hits_most n bs)) (λ o. omega (arith, o.0, hits_most n bs)) (hits_cases n b)

-- where as many items are named as there are entries, each entry names one
all_hit : (n : ℕ) (bs : List ℕ) → length bs ≤ sum (hits n) bs → (i : ℕ) → i < length bs → (0 < get_or bs i 0) × (get_or bs i 0 ≤ n)
all_hit n [] e i h = absurd (omega arith)
all_hit n (b ∷ bs) e zero h = ⊎_elim (λ z. absurd (omega (arith, z, hits_most n bs))) (λ o. (o.1, o.2)) (hits_cases n b)
all_hit n (b ∷ bs) e (suc i) h =
    all_hit n bs (⊎_elim (λ z. omega (arith, z)) (λ o. omega (arith, o.0)) (hits_cases n b)) i (omega arith)

-- "each item once": as many entries as items leave no room for others
pub each_below : (n : ℕ) (bs : List ℕ) → length bs ≤ n → each_once n bs ≡ true → (i : ℕ) → i < length bs → (0 < get_or bs i 0) × (get_or bs i 0 ≤ n)
each_below n bs l e = all_hit n bs (omega (arith, sum_each n bs e))

-- ---- the order of the units of the items named

occurs_named : (j : ℕ) (bs : List ℕ) → ((i : ℕ) → i < length bs → 0 < get_or bs i 0) → occurs j (map (λ b. b - 1) bs) ≡ occurs (suc j) bs
unfolding occurs
occurs_named j [] h = refl
occurs_named j (zero ∷ bs) h = absurd (omega (arith, h 0 (omega arith)))
occurs_named j (suc b ∷ bs) h =
    let q : suc b - 1 ≡ b = omega arith in
    rw (q, eqb-suc-suc b j, occurs_named j bs (λ i l. h (suc i) (omega arith)))

-- all units, by the sum over all items: one item more in front
count_next : (u : ℕ) (us : List ℕ) (n : ℕ) → sum_over (u ∷ us) (λ x. 1) (all_items (suc n)) ≡ u + sum_over us (λ x. 1) (all_items n)
unfolding sum_over all_items
count_next u us zero = omega arith
count_next u us (suc n) = omega (arith, count_next u us n)

count_all : (units : List ℕ) → sum_over units (λ x. 1) (all_items (length units)) ≡ foldr ◌+◌ 0 units
unfolding sum_over all_items
count_all [] = refl
count_all (u ∷ us) = omega (arith, count_next u us (length us), count_all us)

length_sum : (σ : List ℕ) → length σ ≡ sum (λ x. 1) σ
length_sum [] = refl
length_sum (x ∷ σ) = omega (arith, length_sum σ)

-- every order has all units
pub order_length : (units σ : List ℕ) → Order units σ → length σ ≡ foldr ◌+◌ 0 units
order_length units σ o = length_sum σ ∙ sum_order units (λ x. 1) σ o ∙ count_all units

module _ (units bs : List ℕ) (l : length bs ≡ length units) (e : each_once (length units) bs ≡ true) where
  -- all units of the first item named, then all of the second, and so on
  pub named_order : Order units (together units (map (λ b. b - 1) bs))
  named_order =
      once_order units (map (λ b. b - 1) bs)
      (λ j h. occurs_named j bs (λ i p. (each_below (length units) bs (omega arith) e i p).0) ∙ each_occurs (length units) bs e j h)
