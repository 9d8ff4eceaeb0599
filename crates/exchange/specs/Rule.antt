-- The rule for a given order.
use Rattle.std.specs.Prelude.{cond, List, [], ◌∷◌, ℕ, zero, suc, min, ℤ, pos, negsuc}
use Rattle.std.specs.Int.Signed.{le_z}
use Rattle.exchange.specs.Deal.{Deal, State}

-- the greatest place of 0 .. n whose lower bound is at most p; 0 if none is
unfoldable pub reach : Deal → ℕ → ℕ → ℕ
reach d p zero = 0
reach d p (suc n) = cond (le_z (d.lower (suc n)) (pos p)) (suc n) (reach d p n)

-- a bound as a sum of coins; one below zero counts as none
abbrev pub coins : ℤ → ℕ
coins (pos n) = n
coins (negsuc n) = 0

-- "each step delivers to the greatest place whose lower bound is at most p, and pays to the smaller of upper(a) and P"
unfoldable pub rule : Deal → State → State
rule d s = record { place = reach d s.paid d.last; paid = min (coins (d.upper s.place)) d.price }

-- n steps by the rule, from s on
unfoldable pub ruled : Deal → State → ℕ → List State
ruled d s zero = []
ruled d s (suc n) = rule d s ∷ ruled d (rule d s) n
