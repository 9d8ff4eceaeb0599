-- Plans along one order with fewest steps, with fewest payments, with fewest deliveries, and with fewest moves of both kinds. The sentences
-- quoted here are W1's.
use Rattle.std.specs.Prelude.{◌≡◌, cond, List, [], ◌∷◌, ℕ, ◌+◌, ◌*◌, ◌≤◌, leb, ltb, eqb, length}
use Rattle.exchange.specs.Deal.{Deal, State, Plan, start}
use Rattle.exchange.specs.Rule.{rule, ruled}
use Rattle.exchange.specs.Arrival.{Arrives}
use Rattle.exchange.specs.declared.Objective.{Objective}

-- 1 where b is more than a, else 0
unfoldable pub rises : ℕ → ℕ → ℕ
rises a b = cond (ltb a b) 1 0

-- what a measure of each step comes to along a list of states, from s on
abbrev pub count : (State → State → ℕ) → State → List State → ℕ
count measure s [] = 0
count measure s (t ∷ ts) = measure s t + count measure t ts

-- "A payment is a step in which the paid total rises"
abbrev pub pays : State → State → ℕ
pays s t = rises s.paid t.paid

-- "a delivery one in which the place rises"
abbrev pub delivers : State → State → ℕ
delivers s t = rises s.place t.place

-- the moves of a step, of both kinds
abbrev pub moves : State → State → ℕ
moves s t = pays s t + delivers s t

-- "start with a delivery only": the rule's first step without its payment
unfoldable pub delivery_only : Deal → State
delivery_only d = record { place = (rule d start).place; paid = 0 }

-- "start with a payment only": the rule's first step without its delivery
unfoldable pub payment_only : Deal → State
payment_only d = record { place = 0; paid = (rule d start).paid }

-- a first step to f, and the steps after it: "An empty first step is dropped"
unfoldable pub opening : State → List State → List State
opening f xs = cond (eqb (moves start f) 0) xs (f ∷ xs)

-- xs opens by a first step to f and goes on by the rule to the first arrival
pub record Opens (d : Deal) (f : State) (xs : List State) : Type 0 where
  pub ruled_steps : ℕ
  pub arrives : Arrives d f ruled_steps
  pub steps_are : xs ≡ opening f (ruled d f ruled_steps)

-- "the smaller of the two, the payment start on a tie"
unfoldable pub smaller : List State → List State → List State
smaller xs ys = cond (leb (count moves start xs) (count moves start ys)) xs ys

-- xs is the smaller of the two starts' plans
pub record Smaller (d : Deal) (xs : List State) : Type 0 where
  pub paying : List State
  pub delivering : List State
  pub payment_start : Opens d (payment_only d) paying
  pub delivery_start : Opens d (delivery_only d) delivering
  pub steps_are : xs ≡ smaller paying delivering

-- the plan for each objective: for fewest steps the rule from the start; "fewest payments (start with a delivery only), fewest deliveries
-- (start with a payment only), fewest moves of both kinds (the smaller of the two ..)"
abbrev pub PlanFor : Objective → Deal → List State → Type 0
PlanFor Objective.Steps d xs = Opens d start xs
PlanFor Objective.Payments d xs = Opens d (delivery_only d) xs
PlanFor Objective.Deliveries d xs = Opens d (payment_only d) xs
PlanFor Objective.Moves d xs = Smaller d xs

-- what each objective counts
abbrev pub counted : Objective → State → State → ℕ
counted Objective.Steps = λ s t. 1
counted Objective.Payments = pays
counted Objective.Deliveries = delivers
counted Objective.Moves = moves

-- xs is a plan of at most 2U + 1 steps, and by this measure it is least "against every safe plan in the same order"
pub record Least (measure : State → State → ℕ) (d : Deal) (xs : List State) : Type 0 where
  pub plan : Plan d xs
  pub short : length xs ≤ 2 * d.last + 1
  pub least : (ys : List State) → Plan d ys → count measure start xs ≤ count measure start ys
