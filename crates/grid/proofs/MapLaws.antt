-- Laws of a row map's bits. Assumes nothing.
use mathlib.Core.Path.{◌≡◌, refl, sym, ap, ◌∙◌}
use mathlib.Core.Bool.{false}
use mathlib.Core.List.{List, [], ◌∷◌}
use Prim.Native.Nat.{ℕ, zero, suc, ◌+◌, ◌-◌, ◌*◌, ◌/◌, ◌%◌, ◌^◌, ◌≤◌, ◌<◌}
use native.Mathlib.Nat.{add-zero, add-suc, zero-add, lt_of_lt_of_le, div-lt_iff_lt-mul, div-eq_of_lt, div-div-eq-div-mul, div-one, zero-div, one-mul}
use native.Mathlib.Omega.{arith}
use native.Mathlib.Decide.{ℕ_discrete}
use borrow.Author.Tests.{eqb-false}
use lib.ListN.{length, get_or, take, get_or-eq_default}
use lib.Seq.{get_or-take}
use lib.Count.{ones, ones_step}
use lib.Pow.{pow_pos, pow_mono, shl_exact}
use Rattle.area.specs.Entries.{Bytes}
use Rattle.grid.specs.Map.{bit_at, stands, bits_from, bit_count, standing, map_size}

-- past the end of a map no bit stands
pub none_past : (map : List ℕ) (r : ℕ) → length map ≤ r / 8 → bits_from map r ≡ 0
unfolding bits_from
none_past map r h = rw (get_or-eq_default map 0 h) (zero-div (2 ^ (r % 8)))

-- a row's bit is the lowest of those from it on
pub bit_from : (map : List ℕ) (r : ℕ) → bit_at map r ≡ bits_from map r % 2
unfolding bit_at bits_from
bit_from map r = refl

-- a map's front has the bits of its rows
pub bit_take : (map : List ℕ) (w r : ℕ) → r < 8 * w → bit_at (take w map) r ≡ bit_at map r
unfolding bit_at
bit_take map w r h = rw (get_or-take w map (r / 8) 0 (omega arith))

-- the byte of a row from which on no bit stands
pub bits_clear : (map : List ℕ) (r : ℕ) → bits_from map r ≡ 0 → get_or map (r / 8) 0 < 2 ^ (r % 8)
unfolding bits_from
bits_clear map r e =
    let h : get_or map (r / 8) 0 < 1 * 2 ^ (r % 8) = (div-lt_iff_lt-mul (pow_pos (r % 8))).0 (omega arith) in
    omega arith

pub bit_le : (map : List ℕ) (r : ℕ) → bit_at map r ≤ 1
unfolding bit_at
bit_le map r = omega arith

pub not_standing : (map : List ℕ) (r : ℕ) → stands map r ≡ false → bit_at map r ≡ 0
not_standing map r e = go (ℕ_discrete (bit_at map r) 1)
  where
    go : Dec (bit_at map r ≡ 1) → bit_at map r ≡ 0
    go (yes q) = absurd (eqb-false (bit_at map r) 1 e q)
    go (no q) = omega (arith, bit_le map r)

pub standing_le : (map : List ℕ) (n : ℕ) → standing map n ≤ n
unfolding standing
standing_le map zero = omega arith
standing_le map (suc n) = omega (arith, standing_le map n, bit_le map n)

-- ---- the bits counted row by row and byte by byte

-- a byte's eight rows, and its eight digits
eight : (b : ℕ) (map : List ℕ) → standing (b ∷ map) 8 ≡ b % 2 + b / 2 % 2 + b / 4 % 2 + b / 8 % 2 + b / 16 % 2 + b / 32 % 2 + b / 64 % 2 + b / 128 % 2
unfolding standing bit_at
eight b map = rw (div-one b, zero-add)

halved : (b k : ℕ) → ones (b / k) ≡ b / k % 2 + ones (b / (k * 2))
halved b k = ones_step (b / k) ∙ rw div-div-eq-div-mul

ones_eight : (b : ℕ) → b < 256 → ones b ≡ b % 2 + b / 2 % 2 + b / 4 % 2 + b / 8 % 2 + b / 16 % 2 + b / 32 % 2 + b / 64 % 2 + b / 128 % 2
unfolding ones
ones_eight b h =
    let z : ones (b / 256) ≡ 0 = ap ones (div-eq_of_lt h) in
    omega (arith, ones_step b, halved b 2, halved b 4, halved b 8, halved b 16, halved b 32, halved b 64, halved b 128)

-- the rows after a map's first byte are those of the rest
bit_shift : (b : ℕ) (map : List ℕ) (r : ℕ) → bit_at (b ∷ map) (8 + r) ≡ bit_at map r
unfolding bit_at
bit_shift b map r =
    let q : (8 + r) / 8 ≡ suc (r / 8) = omega arith in
    let m : (8 + r) % 8 ≡ r % 8 = omega arith in
    rw (q, m)

standing_shift : (b : ℕ) (map : List ℕ) (n : ℕ) → standing (b ∷ map) (8 + n) ≡ standing (b ∷ map) 8 + standing map n
unfolding standing
standing_shift b map zero = rw add-zero
standing_shift b map (suc n) = rw (add-suc, bit_shift b map n) (omega (arith, standing_shift b map n))

pub bits_counted : (map : List ℕ) → Bytes map → standing map (8 * length map) ≡ bit_count map
unfolding bit_count standing
bits_counted [] h = refl
bits_counted (b ∷ map) h =
    let e : 8 * suc (length map) ≡ 8 + 8 * length map = omega arith in
    rw e (standing_shift b map (8 * length map) ∙ omega (arith, eight b map, ones_eight b (h 0), bits_counted map (λ i. h (suc i))))

pub count_le : (map : List ℕ) → Bytes map → bit_count map ≤ 8 * length map
count_le map h = rw (← bits_counted map h) (standing_le map (8 * length map))

-- rows whose bits do not stand do not count
standing_more : (map : List ℕ) (n d : ℕ) → ((r : ℕ) → n ≤ r → r < n + d → bit_at map r ≡ 0) → standing map (n + d) ≡ standing map n
unfolding standing
standing_more map n zero h = rw add-zero
standing_more map n (suc d) h =
    rw add-suc (omega (arith, standing_more map n d (λ r l m. h r l (omega arith)), h (n + d) (omega arith) (omega arith)))

-- in a byte whose bits from row n on are clear, no row from n on stands
bit_clear : (map : List ℕ) (n r : ℕ) → bits_from map n ≡ 0 → n ≤ r → r / 8 ≡ n / 8 → bit_at map r ≡ 0
unfolding bit_at
bit_clear map n r e l q =
    let small : get_or map (n / 8) 0 < 2 ^ (r % 8) = lt_of_lt_of_le (bits_clear map n e) (pow_mono {i = n % 8} {j = r % 8} (omega arith)) in
    rw (q, div-eq_of_lt small)

-- a map with no bit beyond its last row: the bits counted are those of its rows
pub count_rows : (map : List ℕ) (n : ℕ) → Bytes map → length map ≡ map_size n → bits_from map n ≡ 0 → bit_count map ≡ standing map n
count_rows map n h l e =
    let d : 8 * length map ≡ n + (8 * length map - n) = omega arith in
    sym (bits_counted map h) ∙ ap (standing map) d
    ∙ standing_more map n (8 * length map - n) (λ r p q. bit_clear map n r e p (omega arith))

-- ---- a bit

-- 1 shifted by k stays below the word's end
pub shifted : (k w : ℕ) → k < w → 1 * 2 ^ k % 2 ^ w ≡ 2 ^ k
shifted k w h = shl_exact 1 k w (omega arith) (omega arith) ∙ one-mul (2 ^ k)
