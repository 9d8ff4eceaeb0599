-- The largest cell one unit below, by the units in a row's word. Assumes nothing.
use mathlib.Core.Path.{◌≡◌, refl, sym, ◌∙◌}
use mathlib.Core.Bool.{Bool, true, false, cond}
use mathlib.Core.List.{List}
use Prim.Native.Nat.{ℕ, zero, suc, ◌+◌, ◌-◌, ◌*◌, ◌/◌, ◌%◌, ◌^◌, ◌≤◌, ◌<◌}
use native.Mathlib.Nat.{div-eq_of_lt, div-one, lt_of_lt_of_le, max-zero, zero-max, pow-le-pow_right, zero-mod}
use native.Mathlib.Decide.{dec_lt, ℕ_discrete}
use native.Mathlib.Omega.{arith}
use borrow.Author.Tests.{ltb-true}
use lib.Dec.{ltb}
use lib.ListN.{length, get_or, set, drop, length-set}
use lib.Seq.{drop-length, get_or-set_same, get_or-set_other}
use Rattle.grid.specs.Rows.{rows_of, less_one, largest_below}
use Rattle.grid.specs.Units.{packed, Small}
use Rattle.grid.specs.Below.{Strides, below_by, RowAt}
use Rattle.grid.proofs.RowLaws.{rows_pos, rows_drop, rows_end, rows_turn, has_unit, largest_cons}
use Rattle.grid.proofs.UnitLaws.{packed_small, packed_lane}

-- ---- the strides, from the last item to the first

-- the strides of the last i items are known
pub record Striding (us strides : List ℕ) (i : ℕ) : Type 0 where
  pub long : length strides ≡ 4
  pub some : 0 < i
  pub known : (x : ℕ) → x < i → get_or strides x 0 ≡ rows_of (drop (length us - x) us)

pub striding_start : (us strides : List ℕ) → length strides ≡ 4 → get_or strides 0 0 ≡ 1 → Striding us strides 1
striding_start us strides l e =
    record {
      long = l;
      some = omega arith;
      known = λ x h.
          let z : x ≡ 0 = omega arith in
          let all : length us - 0 ≡ length us = omega arith in
          rw (z, all) (e ∙ sym (rows_end us));
    }

module _ {us strides : List ℕ} {i n : ℕ} (small : Small us) (w : Striding us strides i) (more : i < length us) (e : n ≡ get_or us (length us - i) 0 + 1) where
  next_stride : get_or strides (i - 1) 0 * n ≡ rows_of (drop (length us - i) us)
  next_stride =
      let at : length us - (i - 1) - 1 ≡ length us - i = omega (arith, w.some) in
      rw at at (rows_turn (length us - (i - 1)) (get_or strides (i - 1) 0) n us (omega (arith, w.some)) (omega arith) (w.known (i - 1) (omega (arith, w.some))) (rw at e))

  pub stride_le : get_or strides (i - 1) 0 * n ≤ 128
  stride_le = omega (arith, next_stride, rows_drop (length us - i) us, small.rows)

  pub striding_turn : Striding us (set strides i (get_or strides (i - 1) 0 * n)) (i + 1)
  striding_turn =
      record { long = length-set strides i (get_or strides (i - 1) 0 * n) ∙ w.long; some = omega arith; known = λ x h. go x h (ℕ_discrete x i) }
    where
      go : (x : ℕ) → x < i + 1 → Dec (x ≡ i) → get_or (set strides i (get_or strides (i - 1) 0 * n)) x 0 ≡ rows_of (drop (length us - x) us)
      go x h (yes z) = rw z (get_or-set_same strides i (get_or strides (i - 1) 0 * n) 0 (omega (arith, w.long, small.items)) ∙ next_stride)
      go x h (no z) = get_or-set_other strides i x (get_or strides (i - 1) 0 * n) 0 z ∙ w.known x (omega arith)

pub striding_done : {us strides : List ℕ} {i : ℕ} → Striding us strides i → length us ≤ i → Strides us strides
striding_done {us} w h =
    let all : length us - 0 ≡ length us = omega arith in
    record { first = w.known 0 w.some ∙ rw all (rows_end us); stride_at = λ x l. w.known x (omega arith) }

-- ---- item by item

-- no byte is above those of the items
pub no_byte : (us : List ℕ) (r i : ℕ) → Small us → length us ≤ i → packed us r / 256 ^ i % 256 ≡ 0
no_byte us r i small h =
    let most : 256 ^ length us ≤ 256 ^ i = pow-le-pow_right {n = 256} (omega arith) {j = i} h in
    rw (div-eq_of_lt (lt_of_lt_of_le (packed_small us r small) most)) (zero-mod 256)

module _ (us strides cells : List ℕ) (r : ℕ) (small : Small us) (known : Strides us strides) where
  -- the byte of one of the last items
  pub byte_is : (i : ℕ) → i < length us → packed us r / 256 ^ i % 256 ≡ r / get_or strides i 0 % (get_or us (length us - suc i) 0 + 1)
  byte_is i h =
      let at : length us - suc (length us - suc i) ≡ i = omega arith in
      let next : length us - suc i + 1 ≡ length us - i = omega arith in
      rw (known.stride_at i h) (rw (at, next) at (packed_lane us (length us - suc i) r small (omega arith)))

  largest_by : (i : ℕ) → below_by strides (packed us r) cells r i ≡ largest_below (drop (length us - i) us) cells r
  unfolding below_by largest_below less_one
  largest_by zero =
      let all : length us - 0 ≡ length us = omega arith in
      rw (all, drop-length us)
  largest_by (suc i) = go (dec_lt i (length us)) (largest_by i)
    where
      go : Dec (i < length us) → below_by strides (packed us r) cells r i ≡ largest_below (drop (length us - i) us) cells r
          → below_by strides (packed us r) cells r (suc i) ≡ largest_below (drop (length us - suc i) us) cells r
      go (yes l) e =
          let next : length us - suc i + 1 ≡ length us - i = omega arith in
          rw (e, byte_is i l, known.stride_at i l) (sym (largest_cons (length us - suc i) us cells r (omega arith) ∙ rw next))
      go (no l) e =
          let a : length us - i ≡ 0 = omega arith in
          let b : length us - suc i ≡ 0 = omega arith in
          rw (e, no_byte us r i small (omega arith), a, b) (max-zero (largest_below us cells r))

  pub largest_all : below_by strides (packed us r) cells r 4 ≡ largest_below us cells r
  largest_all =
      let none : length us - 4 ≡ 0 = omega (arith, small.items) in
      rw none at (largest_by 4)

  pub row_at : {word last : ℕ} → r < length cells → word ≡ packed us r → (0 < r → last ≡ get_or cells (r - 1) 0) → RowAt strides cells r word last
  row_at h e f =
      record {
        first = known.first;
        under = λ i. rw e (record { row = h; some = λ p. some i p (dec_lt i (length us)); before = λ p. before i p (dec_lt i (length us)) });
        last_is = f;
      }
    where
      some : (i : ℕ) → 0 < packed us r / 256 ^ i % 256 → Dec (i < length us) → 0 < get_or strides i 0
      some i p (yes l) = rw (known.stride_at i l) (rows_pos (drop (length us - i) us))
      some i p (no l) = absurd (omega (arith, no_byte us r i small (omega arith)))

      before : (i : ℕ) → 0 < packed us r / 256 ^ i % 256 → Dec (i < length us) → get_or strides i 0 ≤ r
      before i p (yes l) = has_unit r (get_or strides i 0) (get_or us (length us - suc i) 0 + 1) (rw (byte_is i l) at p)
      before i p (no l) = absurd (omega (arith, no_byte us r i small (omega arith)))

-- ---- the four items

module _ {strides cells : List ℕ} {r word last : ℕ} (h : RowAt strides cells r word last) where
  -- the last item takes one row a unit
  pub first_below : {a : ℕ} → a ≡ cond (ltb 0 (word % 256)) last 0 → a ≡ below_by strides word cells r 1
  unfolding below_by
  first_below e = e ∙ rw (h.first, div-one, zero-max) (go (ltb 0 (word % 256)) refl)
    where
      go : (t : Bool) → ltb 0 (word % 256) ≡ t → cond t last 0 ≡ cond t (get_or cells (r - 1) 0) 0
      go true q =
          let unit : 0 < word / 1 % 256 = rw div-one (ltb-true 0 (word % 256) q) in
          h.last_is (omega (arith, (h.under 0).before unit, h.first))
      go false q = refl

  -- a word of one byte
  pub one_byte : word < 256 → below_by strides word cells r 1 ≡ below_by strides word cells r 4
  unfolding below_by
  one_byte l =
      let b : word / 256 ≡ 0 = omega arith in
      let c : word / 65536 ≡ 0 = omega arith in
      let d : word / 16777216 ≡ 0 = omega arith in
      rw (b, c, d, max-zero, max-zero, max-zero)
