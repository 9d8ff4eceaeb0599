-- A plan in two byte areas: places of two bytes each, paid totals of four.
use Rattle.std.specs.Prelude.{List, [], ◌∷◌, ℕ, take}
use Rattle.area.specs.Entries.{entries}
use Rattle.exchange.specs.Deal.{State}

-- the states with these places and paid totals
unfoldable pub states : List ℕ → List ℕ → List State
states [] sums = []
states (b ∷ places) [] = []
states (b ∷ places) (q ∷ sums) = record { place = b; paid = q } ∷ states places sums

-- "the first n entries of the places and sums"
unfoldable pub plan_in : ℕ → List ℕ → List ℕ → List State
plan_in n places sums = states (take n (entries 2 places)) (take n (entries 4 sums))
