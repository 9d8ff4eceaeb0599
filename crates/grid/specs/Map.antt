-- A row map: one bit a row, lowest bit first.
use Rattle.std.specs.Prelude.{Bool, cond, List, [], ◌∷◌, ◌++◌, ℕ, zero, suc, ◌+◌, ◌*◌, ◌/◌, ◌%◌, ◌^◌, eqb, get_or, set}
use Rattle.std.specs.Int.Count.{ones}

-- the bytes of a map of n rows
abbrev pub map_size : ℕ → ℕ
map_size n = (n + 7) / 8

-- bit r of a map
unfoldable pub bit_at : List ℕ → ℕ → ℕ
bit_at map r = get_or map (r / 8) 0 / 2 ^ (r % 8) % 2

-- whether bit r stands
abbrev pub stands : List ℕ → ℕ → Bool
stands map r = eqb (bit_at map r) 1

-- the bits of row n's byte from row n on: in a map of map_size n bytes, the bits beyond the last row
unfoldable pub bits_from : List ℕ → ℕ → ℕ
bits_from map n = get_or map (n / 8) 0 / 2 ^ (n % 8)

-- a map with bit r standing, which did not stand; the map itself if it has no row r
unfoldable pub marked : List ℕ → ℕ → List ℕ
marked map r = set map (r / 8) (get_or map (r / 8) 0 + 2 ^ (r % 8))

-- how many bits stand in a map
unfoldable pub bit_count : List ℕ → ℕ
bit_count [] = 0
bit_count (b ∷ bs) = ones b + bit_count bs

-- how many of the first n rows stand
unfoldable pub standing : List ℕ → ℕ → ℕ
standing map zero = 0
standing map (suc r) = standing map r + bit_at map r

-- the cells of the first n rows that stand
unfoldable pub standing_cells : List ℕ → List ℕ → ℕ → List ℕ
standing_cells map cells zero = []
standing_cells map cells (suc r) = standing_cells map cells r ++ cond (stands map r) (get_or cells r 0 ∷ []) []

-- the byte whose bits are f i, f (i + 1), .., w of them
unfoldable pub packed : (ℕ → Bool) → ℕ → ℕ → ℕ
packed f i zero = 0
packed f i (suc w) = cond (f i) 1 0 + 2 * packed f (i + 1) w
