-- The units of each item in each row of a table, a word a row.
use Rattle.std.specs.Prelude.{◌≡◌, List, [], ◌∷◌, ℕ, ◌+◌, ◌*◌, ◌/◌, ◌%◌, ◌^◌, ◌≤◌, ◌<◌, length, get_or, drop}
use Rattle.grid.specs.Rows.{rows_of}

-- the units of item j in row r, the last item running fastest
abbrev pub unit_of : List ℕ → ℕ → ℕ → ℕ
unit_of us j r = r / rows_of (drop (j + 1) us) % (get_or us j 0 + 1)

-- the units of each item in row r, a byte an item, the last item lowest
unfoldable pub packed : List ℕ → ℕ → ℕ
packed [] r = 0
packed (u ∷ us) r = packed us r + r / rows_of us % (u + 1) * 256 ^ length us

-- at most four items and at most 128 rows: each item has fewer than 256 units
pub record Small (us : List ℕ) : Type 0 where
  pub items : length us ≤ 4
  pub rows : rows_of us ≤ 128

-- the first n words are the units of the first n rows, at most 128
pub record RowUnits (us words : List ℕ) (n : ℕ) : Type 0 where
  pub few : n ≤ 128
  pub word_at : (r : ℕ) → r < n → get_or words r 0 ≡ packed us r
