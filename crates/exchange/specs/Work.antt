-- The working form of a deal, in ℕ and without a sign: the least and the most that is paid at each place.
-- Nothing here has to be believed: the bridge ties it to the definitions of Deal.
use Rattle.std.specs.Prelude.{◌≡◌, Bool, List, ℕ, min, ◌≤◌, T, ◌≤ℤ◌}
use Rattle.exchange.specs.Deal.{Deal, State, WithinBounds, StartSafe, Safe, Chain, start, ends}
use Rattle.exchange.specs.Rule.{coins}

-- what the deals of every form have in common: up to the last place no bound falls as units are added, a safe start lies within the
-- bounds of place 0, and the end is safe
pub record Rising (d : Deal) : Type 0 where
  pub holds_self : (a : ℕ) → T (d.holds a a)
  pub holds_start : (a : ℕ) → T (d.holds 0 a)
  pub upper_rises : (a b : ℕ) → a ≤ d.last → b ≤ d.last → T (d.holds a b) → d.upper a ≤ℤ d.upper b
  pub lower_rises : (a b : ℕ) → a ≤ d.last → b ≤ d.last → T (d.holds a b) → d.lower a ≤ℤ d.lower b
  pub start_within : StartSafe d → WithinBounds d 0 0
  pub end_safe : Safe d d.last d.price

-- the least, floor, and the most, cap, that is paid at each place
pub record Work : Type 0 where
  pub price : ℕ
  pub last : ℕ
  pub cap : ℕ → ℕ
  pub floor : ℕ → ℕ
  pub holds : ℕ → ℕ → Bool

-- floor is the greater of lower and 0, cap the smaller of upper and P
abbrev pub work_of : Deal → Work
work_of d =
    record {
      price = d.price;
      last = d.last;
      cap = λ x. min (coins (d.upper x)) d.price;
      floor = λ x. coins (d.lower x);
      holds = d.holds;
    }

-- the same of the working form
pub record Lawful (w : Work) : Type 0 where
  pub holds_self : (a : ℕ) → T (w.holds a a)
  pub holds_start : (a : ℕ) → T (w.holds 0 a)
  pub cap_rises : (a b : ℕ) → a ≤ w.last → b ≤ w.last → T (w.holds a b) → w.cap a ≤ w.cap b
  pub floor_rises : (a b : ℕ) → a ≤ w.last → b ≤ w.last → T (w.holds a b) → w.floor a ≤ w.floor b
  pub cap_price : (a : ℕ) → w.cap a ≤ w.price
  pub cap_last : w.cap w.last ≡ w.price
  pub floor_last : w.floor w.last ≤ w.price

-- a step: what is delivered is covered by what was paid before, and what is paid by what was delivered before
pub record WorkStep (w : Work) (s t : State) : Type 0 where
  pub in_deal : t.place ≤ w.last
  pub delivers : T (w.holds s.place t.place)
  pub pays : s.paid ≤ t.paid
  pub covered : w.floor t.place ≤ s.paid
  pub afforded : t.paid ≤ w.cap s.place

-- each entry is one step from the entry before it
abbrev pub WorkSteps : Work → State → List State → Type 0
WorkSteps w = Chain (WorkStep w)

-- steps from (0, 0) to (L, P)
pub record WorkPlan (w : Work) (xs : List State) : Type 0 where
  pub steps : WorkSteps w start xs
  pub arrives : ends start xs ≡ record { place = w.last; paid = w.price }
