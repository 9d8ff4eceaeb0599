-- Laws of named items for callers: of the amounts that bytes pick, and of bytes that name each item once and then are zero. Assumes nothing.
use mathlib.Core.Path.{◌≡◌, refl, ap, ap₂}
use mathlib.Core.Bool.{Bool, true, false, ◌&&◌}
use mathlib.Core.List.{List, [], ◌∷◌, ◌++◌, map, append_assoc}
use Prim.Native.Nat.{ℕ, zero, suc, ◌-◌, ◌≤◌, ◌<◌, suc-le-suc}
use native.Mathlib.Omega.{arith}
use lib.ListN.{length, get_or, take, drop, replicate, length-append, length-replicate}
use lib.Seq.{take_at, drop_at}
use Rattle.exchange.specs.Named.{each_once}
use Rattle.order.specs.Bytes.{all_zero, names_each, items_in, picked}
use Rattle.order.proofs.Laws.{numbered_at}

-- ---- the amounts that bytes pick

-- bytes that are not zero pick the amounts of the items they name, counted from 0
pub picked_is : (amounts bs : List ℕ) → ((i : ℕ) → i < length bs → 0 < get_or bs i 0)
    → picked amounts bs ≡ map (λ j. get_or amounts j 0) (map (λ b. b - 1) bs)
picked_is amounts [] h = refl
picked_is amounts (b ∷ bs) h =
    ap₂ ◌∷◌ (numbered_at amounts b (h 0 (omega arith))) (picked_is amounts bs (λ i l. h (suc i) (suc-le-suc l)))

-- the first amounts are those that the first bytes pick
pub picked_take : (n : ℕ) (amounts bs : List ℕ) → take n (picked amounts bs) ≡ picked amounts (take n bs)
picked_take zero amounts bs = refl
picked_take (suc n) amounts [] = refl
picked_take (suc n) amounts (b ∷ bs) = ap (λ (l : List ℕ). get_or (0 ∷ amounts) b 0 ∷ l) (picked_take n amounts bs)

-- ---- each item once, and then zeros

zeros_are : (n : ℕ) → all_zero (replicate n 0) ≡ true
unfolding all_zero
zeros_are zero = refl
zeros_are (suc n) = zeros_are n

-- n bytes that name each item once, filled up with zeros to eight, are order bytes, whatever follows them
pub names_numbered : (n : ℕ) (bs : List ℕ) → n ≤ 8 → length bs ≡ n → each_once n bs ≡ true
    → (rest : List ℕ) → names_each n ((bs ++ replicate (8 - n) 0) ++ rest) ≡ true
unfolding names_each
names_numbered n bs h size once rest =
    let zeros : List ℕ = replicate (8 - n) 0 in
    let eight : length (bs ++ zeros) ≡ 8 = omega (arith, length-append bs zeros, length-replicate {A = ℕ} (8 - n) 0) in
    let front : take n ((bs ++ zeros) ++ rest) ≡ bs = rw append_assoc (take_at bs (zeros ++ rest) n size) in
    rw (front, once, take_at (bs ++ zeros) rest 8 eight, drop_at bs zeros n size) (zeros_are (8 - n))

-- items numbered from 1 are the items that their numbers name, whatever follows them
pub items_numbered : (items rest : List ℕ) → items_in (length items) (map suc items ++ rest) ≡ items
items_numbered [] rest = refl
items_numbered (j ∷ items) rest = let e : suc j - 1 ≡ j = omega arith in ap₂ ◌∷◌ e (items_numbered items rest)

both_true : (t u : Bool) → (t && u) ≡ true → (t ≡ true) × (u ≡ true)
both_true true u e = (refl, e)
both_true false u e = let z : ◌≡◌ {A = ℕ} 0 1 = cc in absurd (omega arith)

-- order bytes: the first n name each item once, and the others of the eight are zero
pub names_split : (n : ℕ) (bytes : List ℕ) → names_each n bytes ≡ true
    → (each_once n (take n bytes) ≡ true) × (all_zero (drop n (take 8 bytes)) ≡ true)
unfolding names_each
names_split n bytes e = both_true _ _ e
