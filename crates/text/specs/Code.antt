-- How much room the lines of a plan ask for.
use Rattle.std.specs.Prelude.{List, ℕ, ◌+◌, ◌*◌, ◌≤◌, ◌<◌, length}
use Rattle.area.specs.Entries.{entries}

-- so many steps stand in both areas, their numbers have at most five digits, and from index i on there is room for their lines: a number and a
-- place of five digits, a sum of ten, and the byte after each
pub record Room (count : ℕ) (places sums out : List ℕ) (i : ℕ) : Type 0 where
  pub in_places : count ≤ length (entries 2 places)
  pub in_sums : count ≤ length (entries 4 sums)
  pub numbers : count < 100000
  pub fits : i + count * 23 ≤ length out
