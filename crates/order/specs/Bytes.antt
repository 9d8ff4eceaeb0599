-- Order bytes: the numbers of the items, from 1, in the order in which they are delivered; then zeros, eight bytes in all.
use Rattle.std.specs.Prelude.{Bool, true, cond, ◌&&◌, List, [], ◌∷◌, ◌++◌, map, ℕ, ◌-◌, leb, eqb, length, get_or, take, drop, replicate}
use Rattle.exchange.specs.Named.{each_once}

-- whether all bytes are zero
unfoldable pub all_zero : List ℕ → Bool
all_zero [] = true
all_zero (b ∷ bytes) = eqb b 0 && all_zero bytes

-- "each item once and then zeros": whether the first eight bytes name n items so
unfoldable pub names_each : ℕ → List ℕ → Bool
names_each n bytes = each_once n (take n bytes) && all_zero (drop n (take 8 bytes))

-- the n items that the bytes name, counted from 0
abbrev pub items_in : ℕ → List ℕ → List ℕ
items_in n bytes = map (λ b. b - 1) (take n bytes)

-- the amount of each item that is named by its number from 1; `none` where no item is
abbrev pub picked_or : {X : Type 0} → X → List X → List ℕ → List X
picked_or none amounts named = map (λ b. get_or (none ∷ amounts) b none) named

-- the same with 0 where no item is
abbrev pub picked : List ℕ → List ℕ → List ℕ
picked amounts named = picked_or 0 amounts named

-- an area with eight order bytes stored; as it was where it is too short
abbrev pub stored_in : List ℕ → List ℕ → List ℕ
stored_in order bytes = cond (leb 8 (length order)) (bytes ++ drop 8 order) order

-- the first eight bytes of an area; zeros where it is shorter
unfoldable pub first_eight : List ℕ → List ℕ
first_eight order = take 8 (order ++ replicate 8 0)
