-- Safe states, steps and plans of a deal, as the paper writes them; one deal for every form of contract.
use Rattle.std.specs.Prelude.{◌≡◌, Bool, List, [], ◌∷◌, ℕ, zero, suc, ◌+◌, ◌≤◌, ◌<◌, T, ℤ, pos, ◌≤ℤ◌}
use Rattle.exchange.specs.Bounds as bounds
use Rattle.exchange.specs.Bounds.{Terms}

-- a deal: P, the last place, the bounds of each place, the least and the most price of a safe start, and whether place b holds at least
-- the units of place a of every item
pub record Deal : Type 0 where
  pub price : ℕ
  pub last : ℕ
  pub upper : ℕ → ℤ
  pub lower : ℕ → ℤ
  pub least_price : ℤ
  pub most_price : ℤ
  pub holds : ℕ → ℕ → Bool

-- the deal with these amounts by these upper and lower bounds
abbrev pub with_bounds : (ℕ → ℤ) → (ℕ → ℤ) → Terms → (ℕ → ℕ → Bool) → Deal
with_bounds upper lower t holds =
    record {
      price = t.price;
      last = t.last;
      upper = upper;
      lower = lower;
      least_price = bounds.least_price t;
      most_price = bounds.most_price t;
      holds = holds;
    }

-- the deal with these amounts
abbrev pub deal_of : Terms → (ℕ → ℕ → Bool) → Deal
deal_of t = with_bounds (bounds.upper t) (bounds.lower t) t

-- the deal with these amounts by the unclipped bounds, as they were ahead of W4
abbrev pub unclipped : Terms → (ℕ → ℕ → Bool) → Deal
unclipped t = with_bounds (bounds.unclipped_upper t) (bounds.unclipped_lower t) t

-- a state: the place delivered and the sum paid
pub record State : Type 0 where
  pub place : ℕ
  pub paid : ℕ

-- "lower ≤ paid ≤ upper, with 0 ≤ paid ≤ P"
pub record WithinBounds (d : Deal) (x p : ℕ) : Type 0 where
  pub low : d.lower x ≤ℤ pos p
  pub high : pos p ≤ℤ d.upper x
  pub within : p ≤ d.price

-- W5: "P lies from vs(L) − vs(0) to vd(L) − vd(0), both ends included"
pub record StartSafe (d : Deal) : Type 0 where
  pub least : d.least_price ≤ℤ pos d.price
  pub most : pos d.price ≤ℤ d.most_price

-- W5: "The state (0, 0) is now safe if P lies from .. to .. Every other state is judged as before": "A state (place, paid) is safe if
-- lower ≤ paid ≤ upper, with 0 ≤ paid ≤ P"
pub record Safe (d : Deal) (x p : ℕ) : Type 0 where
  pub unmoved : x + p ≡ 0 → StartSafe d
  pub moved : 0 < x + p → WithinBounds d x p

-- "A step goes from (a, p) to (b, q): b holds at least a's units of every item, q ≥ p, and all four states ..
-- are safe"
pub record Step (d : Deal) (s t : State) : Type 0 where
  pub in_deal : t.place ≤ d.last
  pub delivers : T (d.holds s.place t.place)
  pub pays : s.paid ≤ t.paid
  pub safe : Safe d s.place s.paid
  pub safe_delivered : Safe d t.place s.paid
  pub safe_paid : Safe d s.place t.paid
  pub safe_after : Safe d t.place t.paid

-- each entry stands in R to the entry before it, the first to s
abbrev pub Chain : (State → State → Type 0) → State → List State → Type 0
Chain R s [] = Unit {0}
Chain R s (t ∷ ts) = R s t × Chain R t ts

-- each entry is one step from the entry before it, the first from s
abbrev pub Steps : Deal → State → List State → Type 0
Steps d = Chain (Step d)

-- where a list of states ends that sets out from s
abbrev pub ends : State → List State → State
ends s [] = s
ends s (t ∷ ts) = ends t ts

-- nothing delivered, nothing paid
abbrev pub start : State
start = record { place = 0; paid = 0 }

-- everything delivered, the price paid
abbrev pub end : Deal → State
end d = record { place = d.last; paid = d.price }

-- "A plan is the list of (b, q) from (0, 0) to (L, P)"
pub record Plan (d : Deal) (xs : List State) : Type 0 where
  pub steps : Steps d start xs
  pub arrives : ends start xs ≡ end d

-- "After k steps a plan stands at its kth (b, q), after none at (0, 0)"; past its end, where it ends
abbrev pub after : State → List State → ℕ → State
after s [] k = s
after s (t ∷ ts) zero = s
after s (t ∷ ts) (suc k) = after t ts k

-- s has delivered no more and been paid no more than t
pub record Behind (s t : State) : Type 0 where
  pub place : s.place ≤ t.place
  pub paid : s.paid ≤ t.paid
