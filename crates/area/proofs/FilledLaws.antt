-- How an area comes to hold a list and nothing else. Assumes nothing.
use mathlib.Core.Path.{◌≡◌, ◌∙◌}
use mathlib.Core.List.{List}
use Prim.Native.Nat.{ℕ}
use lib.ListN.{length, take}
use Rattle.area.specs.Entries.{entries, remainder, Cleared}
use Rattle.area.specs.Filled.{Filled}
use Rattle.area.proofs.Laws.{entries_length}

-- an area as long as another has as many entries
pub entries_same : (w : ℕ) (s t : List ℕ) → length t ≡ length s → length (entries w t) ≡ length (entries w s)
entries_same w s t e = rw (entries_length, e, ← entries_length w s)

-- the list is written at the front, and the entries after it are cleared
pub filled : (w : ℕ) (xs before mid after : List ℕ) (n : ℕ) → length xs ≡ n → take n (entries w mid) ≡ xs
    → remainder w mid ≡ remainder w before → length mid ≡ length before → Cleared w mid after n → Filled w xs before after
filled w xs before mid after n l front rest long c =
    record {
      entries_are = rw (c.entries_zero, front, entries_same w before mid long, l);
      remainder_kept = c.remainder_kept ∙ rest;
      length_kept = c.length_kept ∙ long;
    }
