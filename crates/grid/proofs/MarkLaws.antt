-- The map of the cells that have to be given: its bytes, its bits, and how it grows row by row. Assumes nothing.
use mathlib.Core.Path.{◌≡◌, refl, sym, ◌∙◌}
use mathlib.Core.Logic.{◌≢◌}
use mathlib.Core.Bool.{Bool, true, false, cond, not}
use mathlib.Core.List.{List}
use Prim.Native.Nat.{ℕ, zero, suc, ◌+◌, ◌*◌, ◌/◌, ◌%◌, ◌^◌, ◌≤◌, ◌<◌}
use native.Mathlib.Nat.{add-zero, div-one, pow-succ', div-div-eq-div-mul, div-eq_of_lt}
use native.Mathlib.Decide.{dec_lt, ℕ_discrete}
use native.Mathlib.Omega.{arith}
use borrow.Author.Tests.{lt-ltb, le-ltb}
use lib.Dec.{eqb}
use lib.ListN.{length, get_or, take, get_or-eq_default}
use lib.Pow.{pow_pos}
use lib.Seq.{set_out}
use Rattle.area.specs.Entries.{Bytes, up_to}
use Rattle.area.proofs.Laws.{up_to_length, up_to_at, up_to_ext, up_to_set, up_to_take}
use Rattle.grid.specs.Rows.{largest_below}
use Rattle.grid.specs.Map.{bit_at, bits_from, marked, packed}
use Rattle.grid.specs.Cells.{given, row_map}
use Rattle.grid.proofs.MapLaws.{none_past}

-- ---- a byte of bits

one_bit : (b : Bool) → cond b 1 0 ≤ 1
one_bit true = omega arith
one_bit false = omega arith

packed_ext : (f g : ℕ → Bool) (i w : ℕ) → ((j : ℕ) → i ≤ j → j < i + w → g j ≡ f j) → packed g i w ≡ packed f i w
unfolding packed
packed_ext f g i zero h = refl
packed_ext f g i (suc w) h =
    let first : g i ≡ f i = h i (omega arith) (omega arith) in
    let rest : packed g (i + 1) w ≡ packed f (i + 1) w = packed_ext f g (i + 1) w (λ j l m. h j (omega arith) (omega arith)) in
    cc

-- one bit more
packed_add : (f g : ℕ → Bool) (i w k : ℕ) → k < w → f (i + k) ≡ false → g (i + k) ≡ true → ((j : ℕ) → j ≢ i + k → g j ≡ f j)
    → packed g i w ≡ packed f i w + 2 ^ k
unfolding packed
packed_add f g i zero k l e t h = absurd (omega arith)
packed_add f g i (suc w) zero l e t h =
    let rest : packed g (i + 1) w ≡ packed f (i + 1) w = packed_ext f g (i + 1) w (λ j m n. h j (λ q. omega arith)) in
    rw (rw add-zero at t, rw add-zero at e) (omega arith)
packed_add f g i (suc w) (suc k) l e t h =
    let p : i + suc k ≡ i + 1 + k = omega arith in
    let first : g i ≡ f i = h i (λ q. omega arith) in
    let rest : packed g (i + 1) w ≡ packed f (i + 1) w + 2 ^ k = packed_add f g (i + 1) w k (omega arith) (rw p at e) (rw p at t) (λ j q. h j (λ s. q (s ∙ p))) in
    rw first (omega arith)

-- no bit from k on
packed_lt : (f : ℕ → Bool) (i w k : ℕ) → ((j : ℕ) → i + k ≤ j → j < i + w → f j ≡ false) → packed f i w < 2 ^ k
unfolding packed
packed_lt f i zero k h = pow_pos k
packed_lt f i (suc w) zero h =
    let rest : packed f (i + 1) w < 2 ^ 0 = packed_lt f (i + 1) w 0 (λ j l m. h j (omega arith) (omega arith)) in
    rw (h i (omega arith) (omega arith)) (omega arith)
packed_lt f i (suc w) (suc k) h =
    let rest : packed f (i + 1) w < 2 ^ k = packed_lt f (i + 1) w k (λ j l m. h j (omega arith) (omega arith)) in
    omega (arith, one_bit (f i))

-- bit k
packed_bit : (f : ℕ → Bool) (i w k : ℕ) → k < w → packed f i w / 2 ^ k % 2 ≡ cond (f (i + k)) 1 0
unfolding packed
packed_bit f i zero k l = absurd (omega arith)
packed_bit f i (suc w) zero l = rw (add-zero, div-one) (omega (arith, one_bit (f i)))
packed_bit f i (suc w) (suc k) l =
    let p : i + suc k ≡ i + 1 + k = omega arith in
    let half : (cond (f i) 1 0 + 2 * packed f (i + 1) w) / 2 ≡ packed f (i + 1) w = omega (arith, one_bit (f i)) in
    rw (p, pow-succ', ← div-div-eq-div-mul, half) (packed_bit f (i + 1) w k (omega arith))

-- ---- the cells that have to be given

-- of n rows, none from row n on
given_past : (us cells : List ℕ) (n j : ℕ) → n ≤ j → given us cells n j ≡ false
unfolding given
given_past us cells n j h = rw (le-ltb j n h)

-- with one row more, that row
given_here : (us cells : List ℕ) (r : ℕ) → given us cells (r + 1) r ≡ not (eqb (get_or cells r 0) (largest_below us cells r))
unfolding given
given_here us cells r = rw (lt-ltb r (r + 1) (omega arith))

-- with one row more, the others
given_other : (us cells : List ℕ) (r j : ℕ) → j ≢ r → given us cells (r + 1) j ≡ given us cells r j
unfolding given
given_other us cells r j h = go (dec_lt j r)
  where
    go : Dec (j < r) → given us cells (r + 1) j ≡ given us cells r j
    go (yes l) = rw (lt-ltb j (r + 1) (omega arith), lt-ltb j r l)
    go (no m) = rw (le-ltb j (r + 1) (omega arith), le-ltb j r (omega arith))

-- ---- the map

pub map_length : (us cells : List ℕ) (n w : ℕ) → length (row_map us cells n w) ≡ w
unfolding row_map
map_length us cells n w = up_to_length w (λ k. packed (given us cells n) (8 * k) 8)

pub map_byte : (us cells : List ℕ) (n w k : ℕ) → k < w → get_or (row_map us cells n w) k 0 ≡ packed (given us cells n) (8 * k) 8
unfolding row_map
map_byte us cells n w k h = up_to_at w (λ k. packed (given us cells n) (8 * k) 8) k h

-- from row n on no bit stands
pub map_rest : (us cells : List ℕ) (n w : ℕ) → bits_from (row_map us cells n w) n ≡ 0
unfolding bits_from
map_rest us cells n w = go (dec_lt (n / 8) w)
  where
    go : Dec (n / 8 < w) → bits_from (row_map us cells n w) n ≡ 0
    go (yes l) =
        rw (map_byte us cells n w (n / 8) l)
        (div-eq_of_lt (packed_lt (given us cells n) (8 * (n / 8)) 8 (n % 8) (λ j p q. given_past us cells n j (omega arith))))
    go (no m) = none_past (row_map us cells n w) n (rw map_length (omega arith))

pub map_bytes : (us cells : List ℕ) (n w : ℕ) → Bytes (row_map us cells n w)
map_bytes us cells n w k = go (dec_lt k w)
  where
    go : Dec (k < w) → get_or (row_map us cells n w) k 0 < 256
    go (yes l) = rw (map_byte us cells n w k l) (packed_lt (given us cells n) (8 * k) 8 8 (λ j p q. absurd (omega arith)))
    go (no m) = rw (get_or-eq_default (row_map us cells n w) 0 {n = k} (rw map_length (omega arith))) (omega arith)

-- the bit of a row says whether its cell has to be given
pub map_bit : (us cells : List ℕ) (n w r : ℕ) → r < 8 * w → bit_at (row_map us cells n w) r ≡ cond (given us cells n r) 1 0
unfolding bit_at
map_bit us cells n w r h =
    let at : 8 * (r / 8) + r % 8 ≡ r = omega arith in
    rw (map_byte us cells n w (r / 8) (omega arith)) (packed_bit (given us cells n) (8 * (r / 8)) 8 (r % 8) (omega arith) ∙ rw at)

-- a shorter map is the front of a longer one
pub map_take : (us cells : List ℕ) (n w v : ℕ) → w ≤ v → take w (row_map us cells n v) ≡ row_map us cells n w
unfolding row_map
map_take us cells n w v h = up_to_take w v (λ k. packed (given us cells n) (8 * k) 8) h

-- one row more
pub map_turn : (us cells : List ℕ) (r w : ℕ)
    → row_map us cells (r + 1) w ≡ cond (not (eqb (get_or cells r 0) (largest_below us cells r))) (marked (row_map us cells r w) r) (row_map us cells r w)
unfolding row_map marked
map_turn us cells r w = go (not (eqb (get_or cells r 0) (largest_below us cells r))) (given_here us cells r)
  where
    f : ℕ → ℕ
    f k = packed (given us cells r) (8 * k) 8

    g : ℕ → ℕ
    g k = packed (given us cells (r + 1)) (8 * k) 8

    -- a byte without row r stays
    stays : (k : ℕ) → k ≢ r / 8 → g k ≡ f k
    stays k h = packed_ext (given us cells r) (given us cells (r + 1)) (8 * k) 8 (λ j l m. given_other us cells r j (λ q. h (omega arith)))

    -- where the cell of row r may be left blank every bit stays
    same : given us cells (r + 1) r ≡ false → (j : ℕ) → Dec (j ≡ r) → given us cells (r + 1) j ≡ given us cells r j
    same e j (yes q) = rw q (e ∙ sym (given_past us cells r r (omega arith)))
    same e j (no q) = given_other us cells r j q

    -- where it has to be given, bit r is added
    set_bit : given us cells (r + 1) r ≡ true → Dec (r / 8 < w) → up_to w g ≡ marked (up_to w f) r
    set_bit e (yes l) =
        let at : r ≡ 8 * (r / 8) + r % 8 = omega arith in
        let new : g (r / 8) ≡ f (r / 8) + 2 ^ (r % 8) =
        packed_add (given us cells r) (given us cells (r + 1)) (8 * (r / 8)) 8 (r % 8) (omega arith)
        (rw (← at) (given_past us cells r r (omega arith))) (rw (← at) e) (λ j q. given_other us cells r j (λ s. q (s ∙ at))) in
        up_to_set w f g (r / 8) (get_or (up_to w f) (r / 8) 0 + 2 ^ (r % 8)) l (rw (up_to_at w f (r / 8) l) new) (λ k _ q. stays k q)
    set_bit e (no m) =
        up_to_ext w g f (λ k l. stays k (λ q. omega arith)) ∙ sym (set_out (up_to w f) (r / 8) _ (rw up_to_length (omega arith)))

    go : (t : Bool) → given us cells (r + 1) r ≡ t → up_to w g ≡ cond t (marked (up_to w f) r) (up_to w f)
    go true e = set_bit e (dec_lt (r / 8) w)
    go false e =
        up_to_ext w g f (λ k l. packed_ext (given us cells r) (given us cells (r + 1)) (8 * k) 8 (λ j _ _. same e j (ℕ_discrete j r)))
