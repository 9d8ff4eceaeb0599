-- An area that holds a list of numbers and nothing else.
use Rattle.std.specs.Prelude.{◌≡◌, List, ◌++◌, ℕ, ◌-◌, length, replicate}
use Rattle.area.specs.Entries.{entries, remainder}

-- the entries are the numbers xs, then zeros; the remainder and the length are as they were
pub record Filled (w : ℕ) (xs before after : List ℕ) : Type 0 where
  pub entries_are : entries w after ≡ xs ++ replicate (length (entries w before) - length xs) 0
  pub remainder_kept : remainder w after ≡ remainder w before
  pub length_kept : length after ≡ length before
