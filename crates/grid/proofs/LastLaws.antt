-- Where no cell is below that of a row with one unit less of one item, the last row's cell is the largest. Assumes nothing.
use mathlib.Core.Path.{◌≡◌, sym, ◌∙◌}
use mathlib.Core.Bool.{true}
use mathlib.Core.List.{List, [], ◌∷◌}
use Prim.Native.Nat.{ℕ, zero, suc, ◌+◌, ◌-◌, ◌*◌, ◌/◌, ◌%◌, ◌≤◌, ◌<◌}
use native.Mathlib.Nat.{add-div_right, add-sub_cancel, le_refl, le_trans, lt_of_mul-lt-mul_left, mod-add-mod, mod-eq_of_lt, mod-lt, mul-le-mul_left, mul-suc}
use native.Mathlib.Decide.{dec_lt}
use native.Mathlib.Omega.{arith}
use borrow.Author.Tests.{lt-ltb}
use lib.ListN.{length, get_or}
use Rattle.grid.specs.Rows.{rows_of, less_one, largest_below, rising, LastLargest}
use Rattle.grid.proofs.RowLaws.{rest_mul, rows_pos, rising_at}

-- R rows on there is one unit more of the item which takes R rows a unit, if row r does not have all its units
one_more : (u R : ℕ) (cells : List ℕ) (r : ℕ) → 0 < R → r / R % (u + 1) + 1 < u + 1 → less_one u R cells (r + R) ≡ get_or cells r 0
unfolding less_one
one_more u R cells r pos room =
    let units : (r + R) / R % (u + 1) ≡ r / R % (u + 1) + 1 =
    rw (add-div_right r pos) (sym (mod-add-mod (r / R) (u + 1) 1) ∙ mod-eq_of_lt room) in
    rw (units, lt-ltb 0 (r / R % (u + 1) + 1) (omega arith), add-sub_cancel r R)

-- a later row of the same round, for which the cell of row r counts as one unit below
record Above (us cells : List ℕ) (r : ℕ) : Type 0 where
  rows : ℕ
  later : 0 < rows
  in_round : r % rows_of us + rows < rows_of us
  counts : get_or cells r 0 ≤ largest_below us cells (r + rows)

-- every row but the last of a round has one: with one unit more of an item after the first or, where those are all there, of the first
climb : (us cells : List ℕ) (r : ℕ) → r % rows_of us + 1 < rows_of us → Above us cells r
unfolding rows_of largest_below
climb [] cells r h = absurd (omega arith)
climb (u ∷ us) cells r h = go (rows_pos us) (climb us cells r) (dec_lt (r % rows_of us + 1) (rows_of us))
  where
    R : ℕ
    R = rows_of us

    d : ℕ
    d = r / R % (u + 1)

    go : 0 < R → (r % R + 1 < R → Above us cells r) → Dec (r % R + 1 < R) → Above (u ∷ us) cells r
    go pos others (yes l) =
        let a : Above us cells r = others l in
        let split : r % (R * (u + 1)) ≡ R * d + r % R = rest_mul r R (u + 1) pos (omega arith) in
        let high : d < u + 1 = mod-lt (r / R) (omega arith) in
        let round : R * d + R ≤ R * (u + 1) = rw mul-suc at (mul-le-mul_left R high) in
        record { rows = a.rows; later = a.later; in_round = omega arith; counts = omega arith }
    go pos others (no m) =
        let split : r % (R * (u + 1)) ≡ R * d + r % R = rest_mul r R (u + 1) pos (omega arith) in
        let low : r % R < R = mod-lt r pos in
        let room : d + 1 < u + 1 = lt_of_mul-lt-mul_left R (omega arith) in
        let round : R * (d + 1) + R ≤ R * (u + 1) = rw mul-suc at (mul-le-mul_left R room) in
        record { rows = R; later = pos; in_round = omega arith; counts = omega (arith, one_more u R cells r pos room) }

module _ (us cells : List ℕ) (rises : rising us cells (rows_of us) ≡ true) where
  abbrev NotAboveLast : ℕ → Type 0
  NotAboveLast r = get_or cells r 0 ≤ get_or cells (rows_of us - 1) 0

  -- at most n rows before the end
  last_within : (n r : ℕ) → r < rows_of us → rows_of us ≤ r + n → NotAboveLast r
  last_within zero r h near = absurd (omega arith)
  last_within (suc n) r h near = go (last_within n) (dec_lt (r + 1) (rows_of us))
    where
      go : ((s : ℕ) → s < rows_of us → rows_of us ≤ s + n → NotAboveLast s) → Dec (r + 1 < rows_of us) → NotAboveLast r
      go nearer (yes l) =
          let same : r % rows_of us ≡ r = mod-eq_of_lt h in
          let a : Above us cells r = climb us cells r (omega arith) in
          let s : ℕ = r + a.rows in
          let i : s < rows_of us = omega arith in
          le_trans a.counts (le_trans (rising_at us cells (rows_of us) rises s i) (nearer s i (omega arith)))
      go nearer (no m) = let same : r ≡ rows_of us - 1 = omega arith in rw same (le_refl _)

-- no cell is above that of the last row
pub last_largest : (us cells : List ℕ) → length cells ≡ rows_of us → rising us cells (rows_of us) ≡ true → LastLargest cells
last_largest us cells all rises =
    record { some = rw all (rows_pos us); last = rw all (λ r h. last_within us cells rises (rows_of us) r h (omega arith)) }
