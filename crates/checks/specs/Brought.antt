-- A brought plan, and what its checks give.
use Rattle.std.specs.Prelude.{◌≡◌, Bool, true, false, ◌&&◌, List, ℕ, leb, length, Result, Ok, Err}
use Rattle.contract.specs.Contract.{Contract}
use Rattle.contract.specs.declared.Refusal.{Refusal}
use Rattle.contract.specs.declared.Refusal.TheVariants.{Short}
use Rattle.exchange.specs.Deal.{State}
use Rattle.exchange.specs.PlanIn.{plan_in}
use Rattle.planning.specs.Check.{holds_count, SafeAlong}
use Rattle.checks.specs.declared.brought.Brought.{Brought}

-- the plan is as it was brought
pub record IsBrought (b : Brought) (count : ℕ) (places sums order : List ℕ) : Type 0 where
  pub count_is : b.count ≡ count
  pub places_are : b.places.now ≡ places
  pub sums_are : b.sums.now ≡ sums
  pub order_is : b.order.now ≡ order

-- the plan, or 8 where an area is too short for it
abbrev pub Brings : ℕ → List ℕ → List ℕ → List ℕ → Result Brought Refusal → Type 0
Brings count places sums order (Ok b) = IsBrought b count places sums order
Brings count places sums order (Err e) = (e ≡ Short) × ((holds_count count places sums && leb 8 (length order)) ≡ false)

-- its steps
abbrev pub steps_of : Brought → List State
steps_of b = plan_in b.count b.places.now b.sums.now

-- whether it is a plan along the order that its bytes name
pub record Decides (k : Contract) (b : Brought) (r : Bool) : Type 0 where
  pub yes : r ≡ true → SafeAlong k b.order.now (steps_of b)
  pub no : r ≡ false → SafeAlong k b.order.now (steps_of b) → ⊥
