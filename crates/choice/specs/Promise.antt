-- What choosing an order for unit prices promises.
use Rattle.std.specs.Prelude.{◌≡◌, Option, None, Some, List, ◌++◌, map, ℕ, suc, ◌-◌, ◌≤◌, length, replicate}
use Rattle.exchange.specs.Chosen.{IsChosen}
use Rattle.exchange.specs.declared.Sides.{Sides}

-- eight order bytes for items counted from 0: "the order bytes list item numbers from 1 and then zeros"
abbrev pub numbered : List ℕ → List ℕ
numbered l = map suc l ++ replicate (8 - length l) 0

-- the items in the chosen order, and the order bytes that name them
pub record ChosenItems (p : Sides) (units costs values order : List ℕ) : Type 0 where
  pub items : List ℕ
  pub chosen : IsChosen p units costs values items
  pub order_is : order ≡ numbered items

-- where an order is found, the bytes name it; else there is none, or there are more than eight items
abbrev pub Answers : Sides → List ℕ → List ℕ → List ℕ → Option (List ℕ) → Type 0
Answers p units costs values (Some order) = ChosenItems p units costs values order
Answers p units costs values None = length units ≤ 8 → (items : List ℕ) → IsChosen p units costs values items → ⊥

-- the promise of choosing
pub record Chooses (p : Sides) (units costs values : List ℕ) (r : Option (List ℕ)) : Type 0 where
  pub answers : Answers p units costs values r
