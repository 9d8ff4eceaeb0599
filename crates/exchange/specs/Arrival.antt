-- When the rule for a given order arrives.
use Rattle.std.specs.Prelude.{◌≡◌, ℕ, ◌<◌}
use Rattle.exchange.specs.Deal.{Deal, State, ends, end}
use Rattle.exchange.specs.Rule.{ruled}

-- from s on, the rule is at the end after n steps and not before
pub record Arrives (d : Deal) (s : State) (n : ℕ) : Type 0 where
  pub there : ends s (ruled d s n) ≡ end d
  pub not_before : (k : ℕ) → k < n → ends s (ruled d s k) ≡ end d → ⊥
