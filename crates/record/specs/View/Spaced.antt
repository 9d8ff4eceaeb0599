-- Numbers that stand at equal distances within a record.
use Rattle.std.specs.Prelude.{◌≡◌, List, ◌++◌, ℕ, ◌+◌, ◌-◌, ◌*◌, ◌≤◌, length, drop}
use Rattle.area.specs.Entries.{column}

-- n numbers of w bytes, the first at index i, each d bytes after the one before, lie within s
pub record Spaced (w : ℕ) (s : List ℕ) (i d n : ℕ) : Type 0 where
  pub apart : w ≤ d
  pub near : d ≤ 16
  pub within : i + n * d ≤ length s + (d - w)

-- an area whose first k entries are those numbers; the others are as they were before
pub record Filling (w : ℕ) (s : List ℕ) (i d k : ℕ) (before after : List ℕ) : Type 0 where
  pub entries_are : after ≡ column w s i d k ++ drop k before
  pub length_kept : length after ≡ length before
