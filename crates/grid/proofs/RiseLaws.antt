-- Rising, by the units in the words of the rows. Assumes nothing.
use mathlib.Core.Path.{◌≡◌, refl, sym, ◌∙◌}
use mathlib.Core.Bool.{Bool, true, false, ◌&&◌, and-true}
use mathlib.Core.List.{List, [], ◌∷◌}
use Prim.Native.Nat.{ℕ, zero, suc, ◌+◌, ◌-◌, ◌*◌, ◌/◌, ◌%◌, ◌^◌, ◌≤◌, ◌<◌, max}
use native.Mathlib.Nat.{add-suc, add-zero, div-eq_of_lt, div-lt_iff_lt-mul, div-one, le-div_iff_mul-le, mod-eq_of_lt, one-mul, zero-div, zero-mod}
use native.Mathlib.Decide.{dec_lt}
use native.Mathlib.Omega.{arith}
use borrow.Author.Tests.{lt-ltb, le-leb, lt-leb}
use lib.Dec.{leb}
use lib.ListN.{length, get_or, drop}
use lib.Seq.{drop-drop}
use Rattle.grid.specs.Rows.{rows_of, less_one, largest_below, rising}
use Rattle.grid.specs.Units.{packed, Small, RowUnits}
use Rattle.grid.specs.Cells.{Sized}
use Rattle.grid.specs.Below.{Strides, below_by}
use Rattle.grid.specs.Rise.{all_rows, not_below, unit_not_below, row_rises, rows_by, Segment}
use Rattle.grid.proofs.RowLaws.{rows_pos, rows_drop, rows_cons, rows_end}
use Rattle.grid.proofs.BelowLaws.{byte_is, no_byte, largest_all}

-- ---- rows that pass a test

and_assoc : (a b c : Bool) → ((a && b) && c) ≡ (a && (b && c))
and_assoc true b c = refl
and_assoc false b c = refl

-- one row more
pub all_turn : (test : ℕ → Bool) (from r : ℕ) (b : Bool) {b' : Bool} → from ≤ r → b ≡ all_rows test from (r - from) → b' ≡ (b && test r) → b' ≡ all_rows test from (r + 1 - from)
unfolding all_rows
all_turn test from r b h e f =
    let n : r + 1 - from ≡ suc (r - from) = omega arith in
    let at : from + (r - from) ≡ r = omega arith in
    rw (n, at) (f ∙ rw e)

-- rows that rise so far, and further ones by a test that says whether they do
pub rising_more : (us cells : List ℕ) (test : ℕ → Bool) (from n : ℕ)
    → ((r : ℕ) → from ≤ r → r < from + n → test r ≡ leb (largest_below us cells r) (get_or cells r 0))
    → (rising us cells from && all_rows test from n) ≡ rising us cells (from + n)
unfolding rising all_rows
rising_more us cells test from zero h = rw add-zero (and-true (rising us cells from))
rising_more us cells test from (suc n) h =
    let so_far : (rising us cells from && all_rows test from n) ≡ rising us cells (from + n) = rising_more us cells test from n (λ r a b. h r a (omega arith)) in
    rw (add-suc from n, ← so_far, ← h (from + n) (omega arith) (omega arith)) (sym (and_assoc (rising us cells from) (all_rows test from n) (test (from + n))))

-- row 0 has no unit, so that it rises
none_below : (us cells : List ℕ) → largest_below us cells 0 ≡ 0
unfolding largest_below less_one
none_below [] cells = refl
none_below (u ∷ us) cells = rw (none_below us cells, zero-div, zero-mod)

pub first_rises : (us cells : List ℕ) → rising us cells 1 ≡ true
unfolding rising
first_rises us cells = rw (none_below us cells) (le-leb 0 (get_or cells 0 0) (omega arith))

-- ---- the rows of the last items

-- the rows of the last i items, which the item before them takes a unit
abbrev pub last_rows : List ℕ → ℕ → ℕ
last_rows us i = rows_of (drop (length us - i) us)

pub last_none : (us : List ℕ) → last_rows us 0 ≡ 1
last_none us =
    let all : length us - 0 ≡ length us = omega arith in
    rw all (rows_end us)

last_next : (us : List ℕ) (i : ℕ) → i < length us → last_rows us (suc i) ≡ last_rows us i * (get_or us (length us - suc i) 0 + 1)
last_next us i h =
    let next : length us - suc i + 1 ≡ length us - i = omega arith in
    rows_cons (length us - suc i) us (omega arith) ∙ rw next

last_le : (us : List ℕ) (i j : ℕ) → i ≤ j → j ≤ length us → last_rows us i ≤ last_rows us j
last_le us i j h l =
    let at : length us - j + (j - i) ≡ length us - i = omega arith in
    rw (drop-drop (j - i) (length us - j) us, at) at (rows_drop (j - i) (drop (length us - j) us))

abbrev strides_of : List ℕ → List ℕ
strides_of us = last_rows us 0 ∷ last_rows us 1 ∷ last_rows us 2 ∷ last_rows us 3 ∷ []

strides_known : (us : List ℕ) → Small us → Strides us (strides_of us)
strides_known us small = record { first = last_none us; stride_at = at }
  where
    at : (i : ℕ) → i < length us → get_or (strides_of us) i 0 ≡ last_rows us i
    at zero h = refl
    at (suc zero) h = refl
    at (suc (suc zero)) h = refl
    at (suc (suc (suc zero))) h = refl
    at (suc (suc (suc (suc i)))) h = absurd (omega (arith, small.items))

-- ---- a row, item by item

leb_max : (a b v : ℕ) → leb (max a b) v ≡ (leb a v && leb b v)
leb_max a b v = go (dec_lt v a) (dec_lt v b)
  where
    go : Dec (v < a) → Dec (v < b) → leb (max a b) v ≡ (leb a v && leb b v)
    go (yes l) _ = rw (lt-leb a v l, lt-leb (max a b) v (omega arith))
    go (no l) (yes m) = rw (le-leb a v (omega arith), lt-leb b v m, lt-leb (max a b) v (omega arith))
    go (no l) (no m) = rw (le-leb a v (omega arith), le-leb b v (omega arith), le-leb (max a b) v (omega arith))

again : (a b : Bool) → ((a && b) && true) ≡ ((a && b) && b)
again true true = refl
again true false = refl
again false b = refl

module _ (us cells : List ℕ) (small : Small us) (r : ℕ) where
  -- the units of the item that i items come after
  abbrev byte_of : ℕ → ℕ
  byte_of i = packed us r / 256 ^ i % 256

  -- and its test
  abbrev item_test : ℕ → Bool
  item_test i = unit_not_below (byte_of i) (last_rows us i) cells r

  by_items : leb (largest_below us cells r) (get_or cells r 0) ≡ (((unit_not_below (packed us r % 256) 1 cells r && item_test 1) && item_test 2) && item_test 3)
  unfolding below_by
  by_items =
      rw (← largest_all us (strides_of us) cells r small (strides_known us small), leb_max, leb_max, leb_max, leb_max, le-leb 0 (get_or cells r 0) (omega arith), div-one, last_none us)

  byte_at : (i : ℕ) → i < length us → byte_of i ≡ r / last_rows us i % (get_or us (length us - suc i) 0 + 1)
  byte_at i h =
      let known = strides_known us small in
      byte_is us (strides_of us) cells r small known i h ∙ rw (known.stride_at i h)

  -- a row of the last i items has no unit of one before them, and so passes its test
  no_unit : (i j : ℕ) → i ≤ j → r < last_rows us i → byte_of j ≡ 0
  no_unit i j h few = go (dec_lt j (length us))
    where
      go : Dec (j < length us) → byte_of j ≡ 0
      go (yes l) =
          let more : last_rows us i ≤ last_rows us j = last_le us i j h (omega arith) in
          let below : r < last_rows us j = omega arith in
          byte_at j l ∙ rw (div-eq_of_lt below) (zero-mod (get_or us (length us - suc j) 0 + 1))
      go (no l) = no_byte us r j small (omega arith)

  passes : (i : ℕ) (k : ℕ) → byte_of i ≡ 0 → unit_not_below (byte_of i) k cells r ≡ true
  passes i k e = rw e (le-leb 0 (get_or cells r 0) (omega arith))

  -- a row with a unit of an item is compared
  compared : (i : ℕ) → i < length us → last_rows us i ≤ r → r < last_rows us (suc i) → item_test i ≡ not_below (last_rows us i) cells r
  compared i l low high =
      let k : ℕ = last_rows us i in
      let p : 0 < k = rows_pos (drop (length us - i) us) in
      let few : r / k < get_or us (length us - suc i) 0 + 1 = (div-lt_iff_lt-mul p).1 (omega (arith, last_next us i l)) in
      let some : 0 < r / k = (le-div_iff_mul-le p).1 (rw one-mul low) in
      rw (byte_at i l, mod-eq_of_lt few, lt-ltb 0 (r / k) some)

  -- ---- the rows that are added by one item, by two, by three and by four

  abbrev Rises : Bool → Type 0
  Rises b = b ≡ leb (largest_below us cells r) (get_or cells r 0)

  one_item : 0 < length us → 1 ≤ r → r < last_rows us 1 → Rises (not_below 1 cells r)
  one_item more low high =
      let here : unit_not_below (packed us r % 256) 1 cells r ≡ not_below 1 cells r = rw (div-one, last_none us) at (compared 0 more (rw (last_none us) low) high) in
      sym
      (by_items
      ∙ rw (passes 1 _ (no_unit 1 1 (omega arith) high), passes 2 _ (no_unit 1 2 (omega arith) high), passes 3 _ (no_unit 1 3 (omega arith) high), here)
      (and-true _ ∙ and-true _ ∙ and-true _))

  two_items : 1 < length us → last_rows us 1 ≤ r → r < last_rows us 2 → Rises (row_rises (packed us r) (last_rows us 1) (last_rows us 1) (last_rows us 1) cells r)
  unfolding row_rises
  two_items more low high =
      let none = no_unit 2 2 (omega arith) high in
      let last : Bool = unit_not_below (packed us r % 256) 1 cells r in
      let here : Bool = not_below (last_rows us 1) cells r in
      sym
      (by_items
      ∙ rw (passes 2 (last_rows us 2) none, passes 2 (last_rows us 1) none, passes 3 _ (no_unit 2 3 (omega arith) high), compared 1 more low high, and-true (last && here))
      (again last here))

  three_items : 2 < length us → last_rows us 2 ≤ r → r < last_rows us 3 → Rises (row_rises (packed us r) (last_rows us 1) (last_rows us 2) (last_rows us 2) cells r)
  unfolding row_rises
  three_items more low high =
      let others : Bool = unit_not_below (packed us r % 256) 1 cells r && item_test 1 in
      sym (by_items ∙ rw (passes 3 _ (no_unit 3 3 (omega arith) high), compared 2 more low high) (again others (not_below (last_rows us 2) cells r)))

  four_items : 3 < length us → last_rows us 3 ≤ r → r < last_rows us 4 → Rises (row_rises (packed us r) (last_rows us 1) (last_rows us 2) (last_rows us 3) cells r)
  unfolding row_rises
  four_items more low high = sym (by_items ∙ rw (compared 3 more low high))

-- ---- the walk over the items, from the last to the first

-- the rows of the last i items, and whether they rise
pub record Risen (us cells : List ℕ) (i k : ℕ) (rises : Bool) : Type 0 where
  pub rows : k ≡ last_rows us i
  pub rises_are : rises ≡ rising us cells k

pub risen_le : {us cells : List ℕ} {i j a b : ℕ} {x y : Bool} → i ≤ j → j ≤ length us → Risen us cells i a x → Risen us cells j b y → a ≤ b
risen_le {us} {i = i} {j = j} h l w z = omega (arith, w.rows, z.rows, last_le us i j h l)

-- the rows from row k on, each by its own test
rises_to : (us cells : List ℕ) (test : ℕ → Bool) (k to : ℕ) {first all : Bool} → k ≤ to → first ≡ rising us cells k → all ≡ (first && all_rows test k (to - k))
    → ((r : ℕ) → k ≤ r → r < to → test r ≡ leb (largest_below us cells r) (get_or cells r 0)) → all ≡ rising us cells to
rises_to us cells test k to h e f rows =
    let end : k + (to - k) ≡ to = omega arith in
    f ∙ rw e (rw end at (rising_more us cells test k (to - k) (λ r a b. rows r a (omega arith))))

module _ {us cells : List ℕ} (sized : Sized us cells) where
  pub risen_alone : {k : ℕ} {all : Bool} → 0 < length us → k ≡ get_or us (length us - 1) 0 + 1 → all ≡ all_rows (not_below 1 cells) 1 (k - 1) → Risen us cells 1 k all
  risen_alone {k} more e f =
      let rows : k ≡ last_rows us 1 = e ∙ sym (last_next us 0 more ∙ rw (last_none us, one-mul)) in
      record {
        rows = rows;
        rises_are =
            rises_to us cells (not_below 1 cells) 1 k (omega (arith, rows_pos (drop (length us - 1) us))) (sym (first_rises us cells)) f
            (λ r a b. one_item us cells sized.small r more a (rw (← rows) b));
      }

  -- one item, or none and one row
  pub risen_single : {all : Bool} → length us < 2 → all ≡ all_rows (not_below 1 cells) 1 (length cells - 1) → all ≡ rising us cells (rows_of us)
  risen_single h f =
      rw (← sized.long)
      (rises_to us cells (not_below 1 cells) 1 (length cells) (omega (arith, sized.long, rows_pos us)) (sym (first_rises us cells)) f
      (λ r a b. go r a b (dec_lt 0 (length us))))
    where
      go : (r : ℕ) → 1 ≤ r → r < length cells → Dec (0 < length us) → not_below 1 cells r ≡ leb (largest_below us cells r) (get_or cells r 0)
      go r a b (yes l) =
          let whole : length us - 1 ≡ 0 = omega arith in
          one_item us cells sized.small r l a (rw (whole, ← sized.long) b)
      go r a b (no l) =
          let none : length us ≡ 0 = omega arith in
          let one : rows_of us ≡ 1 = rw none at (rows_end us) in
          absurd (omega (arith, sized.long))

  module _ {i k m : ℕ} (more : i < length us) (rows : k ≡ last_rows us i) (e : m ≡ get_or us (length us - suc i) 0 + 1) where
    next_rows : k * m ≡ last_rows us (suc i)
    next_rows = rw (rows, e) (sym (last_next us i more))

    pub next_le : k * m ≤ length cells
    next_le = omega (arith, next_rows, rows_drop (length us - suc i) us, sized.long)

    -- the rows that the next item adds
    pub item_segment : {a b : ℕ} → a ≤ k → b ≤ k → Segment cells a b k (k * m)
    item_segment h l =
        record {
          some = rw rows (rows_pos (drop (length us - i) us));
          second = h;
          third = l;
          order = omega (arith, next_rows, last_le us i (suc i) (omega arith) more);
          end = next_le;
          few = omega (arith, next_le, sized.long, sized.small.rows);
        }

    risen_more : (test : ℕ → Bool) {first all : Bool} → first ≡ rising us cells k → all ≡ (first && all_rows test k (k * m - k))
        → ((r : ℕ) → last_rows us i ≤ r → r < last_rows us (suc i) → test r ≡ leb (largest_below us cells r) (get_or cells r 0)) → Risen us cells (suc i) (k * m) all
    risen_more test f g by =
        record {
          rows = next_rows;
          rises_are = rises_to us cells test k (k * m) (item_segment {a = k} {b = k} (omega arith) (omega arith)).order f g (λ r a b. by r (rw (← rows) a) (rw (← next_rows) b));
        }

  module _ {words : List ℕ} (read : RowUnits us words (rows_of us)) where
    word_is : (i r : ℕ) → r < last_rows us i → get_or words r 0 ≡ packed us r
    word_is i r h = read.word_at r (omega (arith, rows_drop (length us - i) us))

    pub risen_two : {a m : ℕ} {one two : Bool} → 1 < length us → Risen us cells 1 a one → m ≡ get_or us (length us - 2) 0 + 1
        → two ≡ (one && all_rows (rows_by words a a a cells) a (a * m - a)) → Risen us cells 2 (a * m) two
    risen_two more w e f =
        risen_more more w.rows e _ w.rises_are f (λ r low high. rw (word_is 2 r high, w.rows) (two_items us cells sized.small r more low high))

    module _ {a b m : ℕ} {one two : Bool} (w : Risen us cells 1 a one) (x : Risen us cells 2 b two) where
      pub risen_three : {three : Bool} → 2 < length us → m ≡ get_or us (length us - 3) 0 + 1
          → three ≡ (two && all_rows (rows_by words a b b cells) b (b * m - b)) → Risen us cells 3 (b * m) three
      risen_three more e f =
          risen_more more x.rows e _ x.rises_are f
          (λ r low high. rw (word_is 3 r high, w.rows, x.rows) (three_items us cells sized.small r more low high))

      pub risen_four : {c : ℕ} {three four : Bool} → 3 < length us → Risen us cells 3 c three → m ≡ get_or us (length us - 4) 0 + 1
          → four ≡ (three && all_rows (rows_by words a b c cells) c (c * m - c)) → Risen us cells 4 (c * m) four
      risen_four more y e f =
          risen_more more y.rows e _ y.rises_are f
          (λ r low high. rw (word_is 4 r high, w.rows, x.rows, y.rows) (four_items us cells sized.small r more low high))

-- all items
pub risen_all : {us cells : List ℕ} {i k : ℕ} {all : Bool} → Risen us cells i k all → i ≡ length us → all ≡ rising us cells (rows_of us)
risen_all {us} w e =
    let none : length us - length us ≡ 0 = omega arith in
    w.rises_are ∙ rw (w.rows, e, none)
