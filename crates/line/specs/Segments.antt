-- Segments: runs of units with one cost and one value. The deal along them, and which segments fit the code's numbers.
use Rattle.std.specs.Prelude.{Bool, true, ◌&&◌, List, [], ◌∷◌, ◌++◌, ℕ, ◌^◌, ltb, eqb, length, replicate}
use Rattle.exchange.specs.Deal.{Deal}
use Rattle.exchange.specs.Forms.{along, ladder}
use Rattle.exchange.specs.declared.Sides.{Sides}

-- the amounts of every unit, one after the other: u units of each amount
unfoldable pub spread : List ℕ → List ℕ → List ℕ
spread [] amounts = []
spread (u ∷ us) [] = []
spread (u ∷ us) (a ∷ rest) = replicate u a ++ spread us rest

-- the deal along segments with these units, costs and values
abbrev pub deal_along : Sides → List ℕ → List ℕ → List ℕ → Deal
deal_along s us cs vs = ladder s (spread us cs) (spread us vs)

-- the total of an amount over all units
abbrev pub total_of : List ℕ → List ℕ → ℕ
total_of us amounts = along (λ a. a) (spread us amounts) (length (spread us amounts))

-- whether every segment has a unit
unfoldable pub all_have : List ℕ → Bool
all_have [] = true
all_have (u ∷ us) = ltb 0 u && all_have us

-- a cost, a value and at least one unit for each segment, and totals that fit: units in 16 bits, cost and value in 32
unfoldable pub fits : List ℕ → List ℕ → List ℕ → Bool
fits us cs vs =
    eqb (length cs) (length us) && eqb (length vs) (length us) && all_have us && ltb (length (spread us cs)) (2 ^ 16)
    && ltb (total_of us cs) (2 ^ 32) && ltb (total_of us vs) (2 ^ 32)
