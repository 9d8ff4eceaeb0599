-- What the functions that find the first step ask and give.
use Rattle.std.specs.Prelude.{◌≡◌, List, [], ℕ, min, length}
use Rattle.exchange.specs.Bounds.{upper_of}
use Rattle.exchange.specs.Deal.{State}
use Rattle.exchange.specs.Rule.{coins}
use Rattle.exchange.specs.Objectives.{opening, Opens, PlanFor}
use Rattle.exchange.specs.declared.Objective.{Objective}
use Rattle.exchange.specs.declared.Sides.{Sides}
use Rattle.line.specs.Segments.{deal_along}
use Rattle.line.specs.Code.{Sets, origin, state_of}
use Rattle.line.specs.declared.First.{First}
use Rattle.line.specs.declared.Totals.{Totals}

-- nothing delivered, nothing paid
abbrev pub at_start : First
at_start = record { cursor = origin; paid = 0 }

-- nothing delivered, and paid what the rule pays there
abbrev pub after_payment : Sides → Totals → First
after_payment s t = record { cursor = origin; paid = min (coins (upper_of s.price t.cost 0 s.supplier)) s.price }

-- the first step leads to the state f, where a plan may begin
pub record Leads (s : Sides) (us cs vs : List ℕ) (f : State) (r : First) : Type 0 where
  pub state_is : state_of r ≡ f
  pub sets : Sets s us cs vs r.cursor r.paid (length (opening (state_of r) []))

-- the plan that opens with the first step is the one for the aim
pub record Chosen (aim : Objective) (s : Sides) (us cs vs : List ℕ) (r : First) : Type 0 where
  pub sets : Sets s us cs vs r.cursor r.paid (length (opening (state_of r) []))
  pub suits : (xs : List State) → Opens (deal_along s us cs vs) (state_of r) xs → PlanFor aim (deal_along s us cs vs) xs
