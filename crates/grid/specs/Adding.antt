-- The words of a table's rows as they grow item by item. Only the code's own functions cite this, no promise.
use Rattle.std.specs.Prelude.{◌≡◌, List, ℕ, ◌+◌, ◌*◌, ◌/◌, ◌%◌, ◌^◌, ◌≤◌, ◌<◌, length, get_or}

-- the first n words are the numbers of their rows
abbrev pub Numbered : List ℕ → ℕ → Type 0
Numbered words n = (r : ℕ) → r < n → get_or words r 0 ≡ r

-- an item that takes `stride` rows a unit can be added in the rows before row `end`: the words of the first `stride` rows are below
-- `one`, its unit, and there are at most 255 units
pub record Addable (words : List ℕ) (stride end one : ℕ) : Type 0 where
  pub some : 0 < stride
  pub begin : stride ≤ end
  pub room : end ≤ length words
  pub units : end ≤ stride * 256
  pub low : (r : ℕ) → r < stride → get_or words r 0 < one
  pub high : one ≤ 256 ^ 3

-- the first n words with the units of that item
pub record Added (stride one : ℕ) (old new : List ℕ) (n : ℕ) : Type 0 where
  pub long : length new ≡ length old
  pub word_at : (r : ℕ) → r < n → get_or new r 0 ≡ get_or old (r % stride) 0 + r / stride * one
