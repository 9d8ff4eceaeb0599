-- What the private functions of this crate ask and give.
use Rattle.std.specs.Prelude.{◌≡◌, List, ℕ, ◌≤◌, ◌<◌, length, get_or}
use Rattle.area.specs.Entries.{entries}
use Rattle.exchange.specs.Deal.{State, start, after}
use Rattle.exchange.specs.PlanIn.{plan_in}
use Rattle.session.specs.declared.Plan.{Plan}
use Rattle.session.specs.declared.Step.{Step}
use Rattle.session.specs.declared.Side.{Side}
use Rattle.session.specs.declared.Side.TheVariants.{Delivery, Payment}

-- the steps of a plan
abbrev pub steps_of : Plan → List State
steps_of p = plan_in p.count p.places.now p.sums.now

-- the entries of a side
abbrev pub entries_of : Side → Plan → List ℕ
entries_of Delivery p = entries 2 p.places.now
entries_of Payment p = entries 4 p.sums.now

-- areas with as many entries as the count says
pub record Held (p : Plan) : Type 0 where
  pub places_hold : p.count ≤ length (entries 2 p.places.now)
  pub sums_hold : p.count ≤ length (entries 4 p.sums.now)

-- a step is open after k steps. It is asked for in clauses and is no type of its own: the session that counts k moves on, so that such a value
-- would be made anew for every step that is looked at
pub record Open (p : Plan) (k : ℕ) : Type 0 where
  pub held : Held p
  pub before_end : k < p.count

-- the entries of the step after k steps
abbrev pub step_at : Plan → ℕ → Step
step_at p k = record { place = get_or (entries 2 p.places.now) k 0; sum = get_or (entries 4 p.sums.now) k 0 }

-- after k steps the plan stands at these entries
pub record StandsAt (p : Plan) (k : ℕ) (here : Step) : Type 0 where
  pub held : Held p
  pub state_is : after start (steps_of p) k ≡ record { place = here.place; paid = here.sum }
