-- An order of items as segments: the deal along them is the contract's, and they fit the planner's numbers. Assumes nothing.
use mathlib.Core.Path.{◌≡◌, refl, ap, fun_ext}
use mathlib.Core.Bool.{true}
use mathlib.Core.List.{List, [], ◌∷◌, map, map-append}
use Prim.Native.Nat.{ℕ, zero, suc, ◌+◌, ◌*◌, ◌<◌, ◌^◌}
use native.Mathlib.Nat.{suc_inj}
use native.Mathlib.Omega.{arith}
use lib.ListN.{length, replicate, length-map}
use borrow.Author.Tests.{eq-eqb, lt-ltb}
use Rattle.contract.specs.Valid.{total}
use Rattle.exchange.specs.Forms.{along, in_order}
use Rattle.exchange.specs.Chosen.{at, together}
use Rattle.exchange.specs.Choice.{sum_over, all_items}
use Rattle.exchange.specs.declared.Sides.{Sides}
use Rattle.line.specs.Segments.{spread, deal_along, all_have, fits, total_of}

-- ---- the amounts of every unit

map_replicate : (f : ℕ → ℕ) (n j : ℕ) → map f (replicate n j) ≡ replicate n (f j)
map_replicate f zero j = refl
map_replicate f (suc n) j = ap (λ (r : List ℕ). f j ∷ r) (map_replicate f n j)

-- the amounts of the items in order are those of their units, item by item
pub spread_items : (us xs items : List ℕ) → spread (map (at us) items) (map (at xs) items) ≡ map (at xs) (together us items)
unfolding spread together
spread_items us xs [] = refl
spread_items us xs (j ∷ items) =
    rw (map-append (at xs) (replicate (at us j) j) (together us items), map_replicate (at xs) (at us j) j, spread_items us xs items) refl

-- ---- sums along the units

pub along_map : (f : ℕ → ℕ) (σ : List ℕ) (k : ℕ) → along (λ a. a) (map f σ) k ≡ along f σ k
unfolding along
along_map f [] k = refl
along_map f (j ∷ σ) zero = refl
along_map f (j ∷ σ) (suc k) = ap (λ (n : ℕ). f j + n) (along_map f σ k)

-- ---- the deals

-- the deal along items, each with all its units together
pub order_deal : (s : Sides) (us cs vs items : List ℕ)
    → deal_along s (map (at us) items) (map (at cs) items) (map (at vs) items) ≡ in_order s cs vs (together us items)
order_deal s us cs vs items =
    let σ = together us items in
    rw (spread_items us cs items, spread_items us vs items, length-map σ (at cs), fun_ext (along_map (at cs) σ), fun_ext (along_map (at vs) σ)) refl

-- ---- which segments fit

-- what fits is within these limits
pub fit : (us cs vs : List ℕ) → length cs ≡ length us → length vs ≡ length us → all_have us ≡ true → length (spread us cs) < 2 ^ 16
    → total_of us cs < 2 ^ 32 → total_of us vs < 2 ^ 32 → fits us cs vs ≡ true
unfolding fits
fit us cs vs c v h n x y = rw (eq-eqb _ _ c, eq-eqb _ _ v, h, lt-ltb _ _ n, lt-ltb _ _ x, lt-ltb _ _ y) refl

-- the total over all items, whatever their order
total_next : (u a : ℕ) (us xs : List ℕ) (n : ℕ)
    → sum_over (u ∷ us) (at (a ∷ xs)) (all_items (suc n)) ≡ u * a + sum_over us (at xs) (all_items n)
unfolding sum_over all_items
total_next u a us xs zero = refl
total_next u a us xs (suc n) = omega (arith, total_next u a us xs n)

pub total_items : (us xs : List ℕ) → length xs ≡ length us → sum_over us (at xs) (all_items (length us)) ≡ total us xs
unfolding total sum_over all_items
total_items [] xs e = refl
total_items (u ∷ us) [] e = absurd (omega arith)
total_items (u ∷ us) (a ∷ xs) e = omega (arith, total_next u a us xs (length us), total_items us xs (suc_inj e))
