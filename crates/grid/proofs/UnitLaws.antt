-- The units of each item in each row, a word a row. Assumes nothing.
use mathlib.Core.Path.{◌≡◌, refl, sym, ap, ◌∙◌}
use mathlib.Core.List.{List, [], ◌∷◌}
use Prim.Native.Nat.{ℕ, zero, suc, ◌+◌, ◌-◌, ◌*◌, ◌/◌, ◌%◌, ◌^◌, ◌≤◌, ◌<◌}
use native.Mathlib.Nat.{zero-add, add-zero, add-mul-div_right, add-mul-mod_self_right, div-eq_of_lt, div-eq-sub-div, div-lt_iff_lt-mul, div-one, le-mul_of_pos_right, le_trans, mod-eq_of_lt, mod-eq-sub-mod, mod-lt, mod-mod, mul-add-div, mul-add-mod_self_left, mul_assoc, mul_comm, mul-le-mul_left, mul-le-mul_right, one-le-pow, pow-le-pow_right, pow-suc, pow-succ'}
use native.Mathlib.Numerals.{add-one}
use native.Mathlib.Decide.{ℕ_discrete}
use native.Mathlib.Omega.{arith}
use lib.ListN.{length, get_or, set, drop, length-set, length-drop}
use lib.Pow.{pow-add}
use lib.Seq.{drop-cons, drop-length, get_or-set_same, get_or-set_other}
use Rattle.grid.specs.Rows.{rows_of}
use Rattle.grid.specs.Units.{unit_of, packed, Small, RowUnits}
use Rattle.grid.specs.Adding.{Numbered, Addable, Added}
use Rattle.grid.proofs.RowLaws.{rest_mul, rows_pos, rows_drop, rows_end, rows_turn}

-- ---- a word and its bytes

pub small_drop : (j : ℕ) (us : List ℕ) → Small us → Small (drop j us)
small_drop j us h = record { items = rw length-drop (omega (arith, h.items)); rows = le_trans (rows_drop j us) h.rows }

-- an item has fewer units than there are rows
pub units_lt : (u : ℕ) (us : List ℕ) (r : ℕ) → Small (u ∷ us) → r / rows_of us % (u + 1) < 128
unfolding rows_of
units_lt u us r h =
    let d : r / rows_of us % (u + 1) < u + 1 = mod-lt (r / rows_of us) (omega arith) in
    let n : u + 1 ≤ rows_of us * (u + 1) = rw mul_comm (le-mul_of_pos_right (u + 1) (rows_pos us)) in
    omega (arith, h.rows)

pub packed_small : (us : List ℕ) (r : ℕ) → Small us → packed us r < 256 ^ length us
unfolding packed
packed_small [] r h = omega arith
packed_small (u ∷ us) r h =
    let low : packed us r < 256 ^ length us = packed_small us r (small_drop 1 (u ∷ us) h) in
    let d : r / rows_of us % (u + 1) * 256 ^ length us ≤ 127 * 256 ^ length us = mul-le-mul_right (256 ^ length us) (omega (arith, units_lt u us r h)) in
    rw pow-succ' (omega arith)

-- what stands above the lowest e bytes and one byte more
above_lane : (d j e : ℕ) → d * 256 ^ (suc j + e) ≡ d * 256 ^ j * 256 * 256 ^ e
above_lane d j e =
    rw (pow-add 256 (suc j) e, pow-suc 256 j) (sym (mul_assoc d (256 ^ j * 256) (256 ^ e)) ∙ ap (λ (x : ℕ). x * 256 ^ e) (sym (mul_assoc d (256 ^ j) 256)))

-- the byte of item j
pub packed_lane : (us : List ℕ) (j r : ℕ) → Small us → j < length us → packed us r / 256 ^ (length us - suc j) % 256 ≡ unit_of us j r
unfolding packed
packed_lane [] j r h l = absurd (omega arith)
packed_lane (u ∷ us) zero r h l =
    let low : packed us r < 256 ^ length us = packed_small us r (small_drop 1 (u ∷ us) h) in
    let last : length (u ∷ us) - 1 ≡ length us = omega arith in
    rw (last, add-mul-div_right (packed us r) (r / rows_of us % (u + 1)) (one-le-pow (length us) 256 (omega arith)), div-eq_of_lt low, zero-add)
    (mod-eq_of_lt (omega (arith, units_lt u us r h)))
packed_lane (u ∷ us) (suc j) r h l =
    let e : ℕ = length us - suc j in
    let d : ℕ = r / rows_of us % (u + 1) in
    let long : length us ≡ suc j + e = omega arith in
    let split : d * 256 ^ length us ≡ d * 256 ^ j * 256 * 256 ^ e = ap (λ (i : ℕ). d * 256 ^ i) long ∙ above_lane d j e in
    let lanes : length (u ∷ us) - suc (suc j) ≡ e = omega arith in
    let next : suc j + 1 ≡ suc (j + 1) = omega arith in
    rw (split, lanes, next, add-mul-div_right (packed us r) (d * 256 ^ j * 256) (one-le-pow e 256 (omega arith)), add-mul-mod_self_right (packed us r / 256 ^ e) (d * 256 ^ j) 256)
    (packed_lane us j r (small_drop 1 (u ∷ us) h) (omega arith))

-- rows one round of all items apart have the same units
packed_mod : (us : List ℕ) (r : ℕ) → packed us (r % rows_of us) ≡ packed us r
unfolding packed rows_of
packed_mod [] r = refl
packed_mod (u ∷ us) r =
    let k : ℕ = rows_of us in
    let d : ℕ = r / k % (u + 1) in
    let rest : r % (k * (u + 1)) ≡ k * d + r % k = rest_mul r k (u + 1) (rows_pos us) (omega arith) in
    let low : r % k < k = mod-lt r (rows_pos us) in
    let unit : (k * d + r % k) / k ≡ d = mul-add-div (rows_pos us) d (r % k) ∙ rw (div-eq_of_lt low) (add-zero d) in
    let row : (k * d + r % k) % k ≡ r % k = mul-add-mod_self_left k d (r % k) ∙ mod-mod r k in
    let others : packed us (k * d + r % k) ≡ packed us r = sym (packed_mod us (k * d + r % k)) ∙ rw row (packed_mod us r) in
    rw (rest, unit, others, mod-mod (r / k) (u + 1))

-- ---- one item more, row by row

pub numbered_turn : (words : List ℕ) (n : ℕ) → n < length words → Numbered words n → Numbered (set words n n) (n + 1)
numbered_turn words n l h r m = go (ℕ_discrete r n)
  where
    go : Dec (r ≡ n) → get_or (set words n n) r 0 ≡ r
    go (yes e) = rw e (get_or-set_same words n n 0 l)
    go (no e) = get_or-set_other words n r n 0 e ∙ h r (omega arith)

-- the first `stride` words stay
pub added_start : {words : List ℕ} {stride end one : ℕ} → Addable words stride end one → Added stride one words words stride
added_start {words} {stride} {end} {one} h =
    record { long = refl; word_at = λ r l. sym (rw (mod-eq_of_lt l, div-eq_of_lt l) (omega arith)) }

module _ {old new : List ℕ} {stride end one n : ℕ} (a : Addable old stride end one) (h : Added stride one old new n) (from : stride ≤ n) (to : n < end) where
  before : get_or new (n - stride) 0 ≡ get_or old (n % stride) 0 + (n - stride) / stride * one
  before = h.word_at (n - stride) (omega (arith, a.some)) ∙ rw (mod-eq-sub-mod from)

  -- a word with one unit more is no larger than 256 units
  pub added_fits : get_or new (n - stride) 0 + one < 2 ^ 32
  added_fits =
      let low : get_or old (n % stride) 0 < one = a.low (n % stride) (mod-lt n a.some) in
      let q : n / stride < 256 = (div-lt_iff_lt-mul a.some).1 (rw mul_comm (omega (arith, a.units))) in
      let e : n / stride ≡ (n - stride) / stride + 1 = div-eq-sub-div a.some from in
      let m : (n - stride) / stride * one ≤ 254 * one = mul-le-mul_right one (omega arith) in
      omega (arith, before, a.high)

  pub added_turn : Added stride one old (set new n (get_or new (n - stride) 0 + one)) (n + 1)
  added_turn =
      record { long = length-set new n (get_or new (n - stride) 0 + one) ∙ h.long; word_at = λ r l. go r l (ℕ_discrete r n) }
    where
      go : (r : ℕ) → r < n + 1 → Dec (r ≡ n) → get_or (set new n (get_or new (n - stride) 0 + one)) r 0 ≡ get_or old (r % stride) 0 + r / stride * one
      go r l (yes e) =
          rw (e, div-eq-sub-div a.some from)
          (get_or-set_same new n (get_or new (n - stride) 0 + one) 0 (omega (arith, h.long, a.room)) ∙ rw before (omega arith))
      go r l (no e) = get_or-set_other new n r (get_or new (n - stride) 0 + one) 0 e ∙ h.word_at r (omega arith)

-- ---- all items, from the last to the first

-- the words have the units of the items from j on: the one before them takes `stride` rows a unit, and `one` is the unit of item j
pub record Packing (us words : List ℕ) (j stride one : ℕ) : Type 0 where
  pub long : length words ≡ 128
  pub within : j < length us
  pub stride_is : stride ≡ rows_of (drop j us)
  pub one_is : one ≡ 256 ^ (length us - suc j)
  pub word_at : (r : ℕ) → r < stride → get_or words r 0 ≡ packed (drop j us) r

-- one item more, from the end
packed_cons : (j : ℕ) (us : List ℕ) (r : ℕ) → j < length us → packed (drop j us) r ≡ packed (drop (j + 1) us) r + unit_of us j r * 256 ^ (length us - suc j)
unfolding packed
packed_cons j us r h = rw (add-one j, drop-cons us j 0 h, length-drop (suc j) us)

-- as long as no other item has a unit, the units of the last item are the number of the row
packed_last : (j : ℕ) (us : List ℕ) (r : ℕ) → j + 1 ≡ length us → r < get_or us j 0 + 1 → packed (drop j us) r ≡ r
unfolding packed rows_of
packed_last j us r e l =
    let z : length us - suc j ≡ 0 = omega arith in
    rw (packed_cons j us r (omega arith), e, drop-length us, z, div-one r, mod-eq_of_lt l) (omega arith)

pub packing_start : (us words : List ℕ) (n : ℕ) → length words ≡ 128 → Numbered words 128 → Small us → 0 < length us → n ≡ get_or us (length us - 1) 0 + 1
    → Packing us words (length us - 1) n 1
packing_start us words n l w h p e =
    let j : ℕ = length us - 1 in
    let z : length us - suc j ≡ 0 = omega arith in
    let s : 1 * n ≡ rows_of (drop j us) = rows_turn (length us) 1 n us p (omega arith) (sym (rows_end us)) e in
    record {
      long = l;
      within = omega arith;
      stride_is = omega arith;
      one_is = rw z;
      word_at = λ r m. w r (omega (arith, rows_drop j us, h.rows)) ∙ sym (packed_last j us r (omega arith) (omega arith));
    }

-- without an item there is one row, with no units
pub packing_none : (us words : List ℕ) → Numbered words 128 → length us ≡ 0 → RowUnits us words (rows_of us)
unfolding packed rows_of
packing_none [] words w e = record { few = omega arith; word_at = λ r l. w r (omega arith) ∙ omega arith }
packing_none (u ∷ us) words w e = absurd (omega arith)

pub packing_done : {us words : List ℕ} {j stride one : ℕ} → Small us → Packing us words j stride one → j ≡ 0 → RowUnits us words (rows_of us)
packing_done {us} {j = j} small h e =
    let s : rows_of us ≡ rows_of (drop j us) = rw e in
    record { few = small.rows; word_at = λ r l. h.word_at r (omega (arith, h.stride_is)) ∙ rw e }

module _ {us words : List ℕ} {j stride one : ℕ} (small : Small us) (h : Packing us words j stride one) (some : 0 < j) where
  next_one : one * 256 ≡ 256 ^ (length us - j)
  next_one =
      let e : length us - j ≡ suc (length us - suc j) = omega (arith, h.within) in
      rw (e, h.one_is) (sym (pow-suc 256 (length us - suc j)))

  pub one_fits : one * 256 ≤ 256 ^ 3
  one_fits = rw next_one (pow-le-pow_right {n = 256} (omega arith) {j = 3} (omega (arith, small.items)))

  module _ {n : ℕ} (e : n ≡ get_or us (j - 1) 0 + 1) where
    next_stride : stride * n ≡ rows_of (drop (j - 1) us)
    next_stride = rows_turn j stride n us some (omega (arith, h.within)) h.stride_is e

    stride_pos : 0 < stride
    stride_pos = rw h.stride_is (rows_pos (drop j us))

    pub next_rows : stride * n ≤ 128
    next_rows = omega (arith, next_stride, rows_drop (j - 1) us, small.rows)

    pub packing_addable : Addable words stride (stride * n) (one * 256)
    packing_addable =
        let units : n ≤ stride * n = rw mul_comm (le-mul_of_pos_right n stride_pos) in
        record {
          some = stride_pos;
          begin = le-mul_of_pos_right stride (omega arith);
          room = omega (arith, h.long, next_rows);
          units = mul-le-mul_left stride (omega (arith, next_rows));
          low = λ r l. rw (h.word_at r l, next_one, ← length-drop j us) (packed_small (drop j us) r (small_drop j us small));
          high = one_fits;
        }

    -- past item j - 1
    pub packing_turn : {new : List ℕ} → Added stride (one * 256) words new (stride * n) → Packing us new (j - 1) (stride * n) (one * 256)
    packing_turn {new} a =
        record { long = a.long ∙ h.long; within = omega (arith, h.within); stride_is = next_stride; one_is = rw last next_one; word_at = at_each }
      where
        last : suc (j - 1) ≡ j
        last = omega arith

        at_each : (r : ℕ) → r < stride * n → get_or new r 0 ≡ packed (drop (j - 1) us) r
        at_each r l =
            let one_on : j - 1 + 1 ≡ j = omega arith in
            let low : get_or words (r % stride) 0 ≡ packed (drop j us) r = h.word_at (r % stride) (mod-lt r stride_pos) ∙ rw h.stride_is (packed_mod (drop j us) r) in
            let unit : r / stride % n ≡ r / stride = mod-eq_of_lt ((div-lt_iff_lt-mul stride_pos).1 (rw mul_comm l)) in
            a.word_at r l ∙ rw low (sym (packed_cons (j - 1) us r (omega (arith, h.within)) ∙ rw (one_on, last, ← h.stride_is, ← e, unit, next_one)))
