-- Which deals along one order have a plan.
use Rattle.std.specs.Prelude.{ℕ, suc, ◌<◌, ◌≤ℤ◌}
use Rattle.exchange.specs.Deal.{Deal, Safe}

-- the start is safe, and the lower bound of each place is at most the upper bound of the place before it
pub record Possible (d : Deal) : Type 0 where
  pub start_safe : Safe d 0 0
  pub no_gap : (i : ℕ) → i < d.last → d.lower (suc i) ≤ℤ d.upper i
