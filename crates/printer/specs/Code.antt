-- What putting an answer asks for.
use Rattle.std.specs.Prelude.{List, ℕ, ◌≤◌, length}
use Rattle.area.specs.Entries.{entries}
use Rattle.contract.specs.Res.{Res, refused, ok}

-- at most 2,001 steps, which stand in both areas
pub record Listed (n : ℕ) (places sums : List ℕ) : Type 0 where
  pub in_places : n ≤ length (entries 2 places)
  pub in_sums : n ≤ length (entries 4 sums)
  pub few : n ≤ 2001

-- the same of the steps that an answer counts
abbrev pub Counted : Res ℕ → List ℕ → List ℕ → Type 0
Counted (refused e) places sums = Unit {0}
Counted (ok n) places sums = Listed n places sums
