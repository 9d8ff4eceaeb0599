-- Plans with fewest steps.
use Rattle.std.specs.Prelude.{◌≡◌, ◌⊎◌, List, [], ◌∷◌, min, ◌≤◌, ◌<◌, length}
use Rattle.exchange.specs.Deal.{Deal, State, Plan, Chain, start}
use Rattle.exchange.specs.Rule.{coins}

-- a step from s to t "pays the smaller of upper(a) and P", a being the place before it
abbrev pub PaysMost : Deal → State → State → Type 0
PaysMost d s t = t.paid ≡ min (coins (d.upper s.place)) d.price

-- "a plan with fewest steps over all orders. Each step pays the smaller of upper(a) and P"
pub record Fewest (d : Deal) (xs : List State) : Type 0 where
  pub plan : Plan d xs
  pub least : (ys : List State) → Plan d ys → length xs ≤ length ys
  pub pays_most : Chain (PaysMost d) start xs

-- the places of the first list are those of the second, or earlier, compared from the first step
abbrev pub Earlier : List State → List State → Type 0
Earlier [] ys = Unit {0}
Earlier (x ∷ xs) [] = ⊥
Earlier (x ∷ xs) (y ∷ ys) = (x.place < y.place) ⊎ ((x.place ≡ y.place) × Earlier xs ys)

-- W2: "of the fewest-step plans the one whose list of rows is earliest, compared from the first step"
pub record Earliest (d : Deal) (xs : List State) : Type 0 where
  pub fewest : Fewest d xs
  pub earliest : (ys : List State) → Plan d ys → length ys ≡ length xs → Earlier xs ys
