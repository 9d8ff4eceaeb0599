-- Laws of numbers in a byte area, over the width w: of `up_to`; of `num` and `digits`; of a run of stores; of `num_at` and `put_at`;
-- of `entries` and `remainder`; of whole entries replaced, which a store and a clear both are; of `column`. Assumes nothing.
use mathlib.Core.Path.{◌≡◌, refl, sym, ap, ap₂, ◌∙◌}
use mathlib.Core.Logic.{◌≢◌}
use mathlib.Core.List.{List, [], ◌∷◌, ◌++◌, append_assoc, append-nil}
use Prim.Native.Nat.{ℕ, zero, suc, ◌+◌, ◌-◌, ◌*◌, ◌/◌, ◌%◌, ◌^◌, ◌≤◌, ◌<◌, suc-le-suc}
use native.Mathlib.Nat.{add_assoc, add_comm, add-zero, zero-add, add-suc, suc-add, add-mul, zero-mul, one-mul, suc-mul, le_of_suc-le-suc, mul-le-mul_right, mul-add-div_right, mul-div_cancel, div_self, zero-div, le-div_iff_mul-le, one-le-pow, div-mul-le_self, add-sub_cancel_left, add-sub_of_le, le_of_lt, div-div-eq-div-mul, pow-suc}
use native.Mathlib.Decide.{ℕ_discrete}
use native.Mathlib.Numerals.{add-one}
use native.Mathlib.Omega.{arith}
use lib.ListN.{length, get_or, set, take, drop, replicate, length-append, length-set, get_or-append, take-append-drop, length-replicate, replicate-append-replicate}
use lib.Seq.{ext_get_or, get_or-set_same, get_or-set_other, sets, get_or-take, get_or-drop, drop-append-add, drop-append_seam, sets-eq, drop_at, take_at, length-take-le, length_front, append_snoc, set_split, set_out, take_all, drop-length}
use borrow.Rule.Slice.PartMut.{put_mid, mid_of, mid_len, Post-is}
use borrow.Author.Tests.{le-leb}
use Rattle.std.specs.Int.{byte_at, bytes_low_first}
use Rattle.area.specs.Entries.{Bytes, num, digits, up_to, entries, remainder, num_at, put_at, column, Stored, Cleared}

-- ---- up_to

pub up_to_length : (n : ℕ) (f : ℕ → ℕ) → length (up_to n f) ≡ n
unfolding up_to
up_to_length zero f = refl
up_to_length (suc n) f = ap suc (up_to_length n (λ k. f (suc k)))

pub up_to_at : (n : ℕ) (f : ℕ → ℕ) (k : ℕ) → k < n → get_or (up_to n f) k 0 ≡ f k
unfolding up_to
up_to_at zero f k h = absurd (omega arith)
up_to_at (suc n) f zero h = refl
up_to_at (suc n) f (suc k) h = up_to_at n (λ j. f (suc j)) k (le_of_suc-le-suc h)

pub up_to_ext : (n : ℕ) (f g : ℕ → ℕ) → ((k : ℕ) → k < n → f k ≡ g k) → up_to n f ≡ up_to n g
unfolding up_to
up_to_ext zero f g e = refl
up_to_ext (suc n) f g e =
    let a : f 0 ≡ g 0 = e 0 (omega arith) in
    let b : up_to n (λ k. f (suc k)) ≡ up_to n (λ k. g (suc k)) = up_to_ext n (λ k. f (suc k)) (λ k. g (suc k)) (λ k h. e (suc k) (suc-le-suc h)) in
    cc

-- the list of f with entry k replaced is the list of g, where g is f but for v at k
pub up_to_set : (n : ℕ) (f g : ℕ → ℕ) (k v : ℕ) → k < n → g k ≡ v → ((j : ℕ) → j < n → j ≢ k → g j ≡ f j) → up_to n g ≡ set (up_to n f) k v
up_to_set n f g k v h e o =
    ext_get_or 0 (up_to n g) (set (up_to n f) k v) (simp (length-set, up_to_length)) at_each
  where
    at_each : (i : ℕ) → i < length (up_to n g) → get_or (up_to n g) i 0 ≡ get_or (set (up_to n f) k v) i 0
    at_each i p = go (ℕ_discrete i k)
      where
        p' : i < n
        p' = rw up_to_length at p

        go : Dec (i ≡ k) → get_or (up_to n g) i 0 ≡ get_or (set (up_to n f) k v) i 0
        go (yes q) =
            up_to_at n g i p' ∙ ap g q ∙ e
            ∙ sym (ap (λ (j : ℕ). get_or (set (up_to n f) k v) j 0) q ∙ get_or-set_same (up_to n f) k v 0 (rw up_to_length h))
        go (no q) = up_to_at n g i p' ∙ o i p' q ∙ sym (get_or-set_other (up_to n f) k i v 0 q ∙ up_to_at n f i p')

pub up_to_take : (w v : ℕ) (f : ℕ → ℕ) → w ≤ v → take w (up_to v f) ≡ up_to w f
unfolding up_to
up_to_take zero v f h = refl
up_to_take (suc w) zero f h = absurd (omega arith)
up_to_take (suc w) (suc v) f h = ap (λ (xs : List ℕ). f 0 ∷ xs) (up_to_take w v (λ k. f (suc k)) (omega arith))

pub up_to_add : (m n : ℕ) (f : ℕ → ℕ) → up_to (m + n) f ≡ up_to m f ++ up_to n (λ k. f (m + k))
unfolding up_to
up_to_add zero n f = simp zero-add
up_to_add (suc m) n f = simp (suc-add, up_to_add m n (λ k. f (suc k)))

-- ---- num and digits

-- a number depends on its w bytes alone
pub num_ext : (w : ℕ) (s t : List ℕ) (i j : ℕ) → ((k : ℕ) → k < w → get_or s (i + k) 0 ≡ get_or t (j + k) 0) → num w s i ≡ num w t j
unfolding num
num_ext zero s t i j e = refl
num_ext (suc w) s t i j e =
    let a : get_or s i 0 ≡ get_or t j 0 = simp add-zero at (e 0 (omega arith)) in
    let r : num w s (i + 1) ≡ num w t (j + 1) = num_ext w s t (i + 1) (j + 1) (λ k h. simp add_assoc (e (1 + k) (omega arith))) in
    cc

pub num_drop : (w : ℕ) (s : List ℕ) (i k : ℕ) → num w s (i + k) ≡ num w (drop i s) k
num_drop w s i k = num_ext w s (drop i s) (i + k) k (λ j h. simp (get_or-drop, add_assoc))

pub num_append : (w : ℕ) (s t : List ℕ) (i : ℕ) → i + w ≤ length s → num w (s ++ t) i ≡ num w s i
num_append w s t i h = num_ext w (s ++ t) s i i (λ k q. get_or-append s t 0 (i + k) (omega arith))

-- w bytes hold a number below 256 ^ w
pub digits_length : (w v : ℕ) → length (digits w v) ≡ w
unfolding digits
digits_length zero v = refl
digits_length (suc w) v = ap suc (digits_length w (v / 256))

pub digits_byte : (w v : ℕ) → Bytes (digits w v)
unfolding digits
digits_byte zero v k = omega arith
digits_byte (suc w) v zero = omega arith
digits_byte (suc w) v (suc k) = digits_byte w (v / 256) k

-- the digits of v, with anything after them, read v
pub num_digits : (w v : ℕ) (t : List ℕ) → v < 256 ^ w → num w (digits w v ++ t) 0 ≡ v
unfolding num digits
num_digits zero v t h = omega arith
num_digits (suc w) v t h =
    let r : num w (digits w (v / 256) ++ t) 0 ≡ v / 256 = num_digits w (v / 256) t (omega arith) in
    let e : num w (digits (suc w) v ++ t) 1 ≡ num w (digits w (v / 256) ++ t) 0 = num_drop w (digits (suc w) v ++ t) 1 0 in
    omega arith

-- a place that holds the digits of v reads v
pub num_part : (w : ℕ) (s : List ℕ) (i v : ℕ) → take w (drop i s) ≡ digits w v → v < 256 ^ w → num w s i ≡ v
num_part w s i v e h = rw (← add-zero i, num_drop, ← take-append-drop w (drop i s), e) (num_digits w v (drop w (drop i s)) h)

-- ---- a run of stores

-- two runs one after the other are one
pub sets_append : (s : List ℕ) (i : ℕ) (a b : List ℕ) → sets (sets s i a) (i + length a) b ≡ sets s i (a ++ b)
sets_append s i [] b = rw add-zero
sets_append s i (x ∷ a) b = rw (add-suc, ← suc-add) (sets_append (set s i x) (suc i) a b)

-- ---- reads and stores where there is room, and past the end

pub num_at_room : (w : ℕ) (s : List ℕ) (i : ℕ) → i + w ≤ length s → num_at w s i ≡ num w s i
unfolding num_at
num_at_room w s i h = rw (le-leb _ _ h)

pub put_at_room : (w : ℕ) (s : List ℕ) (i v : ℕ) → i + w ≤ length s → put_at w s i v ≡ sets s i (digits w v)
unfolding put_at
put_at_room w s i v h = rw (le-leb _ _ h)

-- ---- entries

pub entries_length : (w : ℕ) (s : List ℕ) → length (entries w s) ≡ length s / w
unfolding entries
entries_length w s = up_to_length (length s / w) (λ k. num w s (k * w))

pub entries_at : (w : ℕ) (s : List ℕ) (k : ℕ) → k < length s / w → get_or (entries w s) k 0 ≡ num w s (k * w)
unfolding entries
entries_at w s k h = up_to_at (length s / w) (λ j. num w s (j * w)) k h

-- a number read in a part of exactly its bytes is the area's own
pub part_num : (w : ℕ) (s : List ℕ) (i : ℕ) → i + w ≤ length s → num_at w (mid_of i (i + w - i) s) 0 ≡ num w s i
part_num w s i h =
    let size : length (mid_of i (i + w - i) s) ≡ i + w - i = mid_len i (i + w) s h in
    num_at_room w (mid_of i (i + w - i) s) 0 (omega arith)
    ∙ num_ext w (mid_of i (i + w - i) s) s 0 i (λ k l. rw zero-add (get_or-take (i + w - i) (drop i s) k 0 (omega arith) ∙ get_or-drop i s k 0))

-- an entry that there is
module _ (w : ℕ) (s : List ℕ) (k : ℕ) (h : k < length (entries w s)) where
  pub entry_room : 0 < w → k * w + w ≤ length s
  entry_room pos = omega (arith, (le-div_iff_mul-le pos).0 (rw entries_length at h))

  pub entry_num : num w s (k * w) ≡ get_or (entries w s) k 0
  entry_num = sym (entries_at w s k (rw entries_length at h))

-- n whole entries, and what follows them
module _ (w n : ℕ) (s t : List ℕ) (pos : 0 < w) (e : length s ≡ n * w) where
  count_append : length (s ++ t) / w ≡ n + length t / w
  count_append = rw (length-append, e) (mul-add-div_right pos n (length t))

  pub entries_append : entries w (s ++ t) ≡ entries w s ++ entries w t
  unfolding entries
  entries_append =
      let c : length s / w ≡ n = rw e (mul-div_cancel n pos) in
      let a : up_to n (λ k. num w (s ++ t) (k * w)) ≡ up_to n (λ k. num w s (k * w)) = up_to_ext n _ _ (λ k h. num_append w s t (k * w) (omega (arith, mul-le-mul_right w h))) in
      let b : up_to (length t / w) (λ k. num w (s ++ t) ((n + k) * w)) ≡ up_to (length t / w) (λ k. num w t (k * w)) =
      up_to_ext (length t / w) _ _ (λ k h. rw (add-mul, ← e, num_drop, drop-append_seam)) in
      rw (count_append, c, up_to_add, a, b)

  pub remainder_append : remainder w (s ++ t) ≡ remainder w t
  unfolding remainder
  remainder_append = rw (count_append, add-mul, ← e, drop-append-add)

-- an area cut before entry n
module _ (w n : ℕ) (s : List ℕ) (pos : 0 < w) (h : n ≤ length s / w) where
  front_length : length (take (n * w) s) ≡ n * w
  front_length = length-take-le (n * w) s ((le-div_iff_mul-le pos).0 h)

  entries_cut : entries w s ≡ entries w (take (n * w) s) ++ entries w (drop (n * w) s)
  entries_cut = rw (← entries_append w n (take (n * w) s) (drop (n * w) s) pos front_length, take-append-drop)

  front_count : length (entries w (take (n * w) s)) ≡ n
  front_count = rw (entries_length, front_length) (mul-div_cancel n pos)

  pub entries_take : entries w (take (n * w) s) ≡ take n (entries w s)
  entries_take = rw (entries_cut, take_at (entries w (take (n * w) s)) _ n front_count)

  pub entries_drop : entries w (drop (n * w) s) ≡ drop n (entries w s)
  entries_drop = rw (entries_cut, drop_at (entries w (take (n * w) s)) _ n front_count)

  pub remainder_drop : remainder w (drop (n * w) s) ≡ remainder w s
  remainder_drop = rw (← remainder_append w n (take (n * w) s) (drop (n * w) s) pos front_length, take-append-drop)

pub entries_digits : (w v : ℕ) → 0 < w → v < 256 ^ w → entries w (digits w v) ≡ v ∷ []
unfolding entries up_to
entries_digits w v pos h = rw (digits_length, div_self pos, zero-mul, ← append-nil (digits w v), num_digits w v [] h)

-- zero bytes are the digits of 0, so that cleared entries need no law of their own
digits_zero : (w : ℕ) → digits w 0 ≡ replicate w 0
unfolding digits
digits_zero zero = refl
digits_zero (suc w) = ap (λ (l : List ℕ). 0 ∷ l) (digits_zero w)

entries_zero : (w n : ℕ) → 0 < w → entries w (replicate (n * w) 0) ≡ replicate n 0
unfolding entries up_to
entries_zero w zero pos = simp (zero-mul, zero-div)
entries_zero w (suc n) pos =
    let e : length (digits w 0) ≡ 1 * w = omega (arith, digits_length w 0) in
    rw (suc-mul, add_comm, ← replicate-append-replicate, ← digits_zero w, entries_append w 1 (digits w 0) _ pos e, entries_digits w 0 pos (one-le-pow w 256 (omega arith)), entries_zero w n pos)

-- ---- whole entries replaced

-- t is s with its m entries from entry n on replaced by those of the bytes b
record Replaced (w n m : ℕ) (s b t : List ℕ) : Type 0 where
  entries_new : entries w t ≡ take n (entries w s) ++ entries w b ++ drop (n + m) (entries w s)
  remainder_kept : remainder w t ≡ remainder w s
  length_kept : length t ≡ length s

replaced : (w n m : ℕ) (s b : List ℕ) → 0 < w → n + m ≤ length s / w → length b ≡ m * w → Replaced w n m s b (take (n * w) s ++ b ++ drop ((n + m) * w) s)
replaced w n m s b pos h e = record { entries_new = new; remainder_kept = kept; length_kept = same }
  where
    t : List ℕ
    t = take (n * w) s ++ b ++ drop ((n + m) * w) s

    front : length (take (n * w) s) ≡ n * w
    front = front_length w n s pos (omega arith)

    size : length (take (n * w) s ++ b) ≡ (n + m) * w
    size = rw (length-append, front, e, add-mul)

    new : entries w t ≡ take n (entries w s) ++ entries w b ++ drop (n + m) (entries w s)
    new = rw (entries_append w (n + m) _ _ pos size, entries_append w n _ _ pos front, entries_take w n s pos (omega arith), entries_drop w (n + m) s pos h)

    kept : remainder w t ≡ remainder w s
    kept = rw (remainder_append w (n + m) _ _ pos size, remainder_drop w (n + m) s pos h)

    same : length t ≡ length s
    same = length_front s (take (n * w) s ++ b) ((n + m) * w) (size ∙ sym (front_length w (n + m) s pos h))

-- std's bytes of a number are its digits
digits_low_first : (i w n : ℕ) → bytes_low_first i w n ≡ digits w (n / 256 ^ i)
unfolding digits
digits_low_first i zero n = refl
digits_low_first i (suc w) n = ap₂ ◌∷◌ (first i) (digits_low_first (suc i) w n ∙ ap (digits w) next)
  where
    first : (i : ℕ) → byte_at i n ≡ n / 256 ^ i % 256
    first zero = omega arith
    first (suc i) = refl

    next : n / 256 ^ suc i ≡ n / 256 ^ i / 256
    next = rw (div-div-eq-div-mul, ← pow-suc)

-- bytes copied into a part of their length are stored one after the other
pub part_copied : (w : ℕ) (s ys : List ℕ) (i : ℕ) → i + w ≤ length s → length ys ≡ w → put_mid i (i + w - i) s ys ≡ sets s i ys
part_copied w s ys i h l = rw (Post-is i (i + w) s (omega arith), sets-eq ys s i (omega arith), l, append_assoc)

-- so are a number's
pub copied : (w : ℕ) (s ys : List ℕ) (i v : ℕ) → i + w ≤ length s → ys ≡ bytes_low_first 0 w v → put_mid i (i + w - i) s ys ≡ sets s i (digits w v)
copied w s ys i v h e =
    let own : ys ≡ digits w v = e ∙ digits_low_first 0 w v ∙ ap (digits w) (omega arith) in
    rw own (part_copied w s (digits w v) i h (digits_length w v))

-- an entry stored in its bytes
pub stored_entry : (w : ℕ) (s : List ℕ) (k v : ℕ) → 0 < w → k < length (entries w s) → v < 256 ^ w → Stored w s (sets s (k * w) (digits w v)) k v
stored_entry w s k v pos h l = rw place record { entries_set = one; remainder_kept = r.remainder_kept; length_kept = r.length_kept }
  where
    t : List ℕ
    t = take (k * w) s ++ digits w v ++ drop ((k + 1) * w) s

    place : sets s (k * w) (digits w v) ≡ t
    place =
        let long = digits_length w v in
        rw (sets-eq (digits w v) s (k * w) (omega (arith, entry_room w s k h pos)), long, add-mul, one-mul, append_assoc)

    r : Replaced w k 1 s (digits w v) t
    r = replaced w k 1 s (digits w v) pos (rw (← entries_length w s) (omega arith)) (omega (arith, digits_length w v))

    one : entries w t ≡ set (entries w s) k v
    one = rw (r.entries_new, entries_digits w v pos l, append_snoc, add-one, ← set_split (entries w s) k v h)

pub stored_none : (w : ℕ) (s : List ℕ) (k v : ℕ) → length (entries w s) ≤ k → Stored w s s k v
stored_none w s k v h = record { entries_set = sym (set_out (entries w s) k v h); remainder_kept = refl; length_kept = refl }

-- the bytes from entry n to the end of the last entry are zeroed
module _ (w n : ℕ) (s : List ℕ) where
  pub entries_end : length (entries w s) * w ≤ length s
  entries_end = rw entries_length (div-mul-le_self (length s) w)

  pub cleared_from : (ys : List ℕ) → 0 < w → n < length (entries w s) → ys ≡ replicate (length (mid_of (n * w) (length (entries w s) * w - n * w) s)) 0
      → Cleared w s (put_mid (n * w) (length (entries w s) * w - n * w) s ys) n
  cleared_from ys pos h z = rw place record { entries_zero = zeroed; remainder_kept = r.remainder_kept; length_kept = r.length_kept }
    where
      m : ℕ
      m = length (entries w s) - n

      all : n + m ≡ length (entries w s)
      all = add-sub_of_le (le_of_lt h)

      bytes : (n + m) * w ≡ length (entries w s) * w
      bytes = rw all

      t : List ℕ
      t = take (n * w) s ++ replicate (m * w) 0 ++ drop ((n + m) * w) s

      place : put_mid (n * w) (length (entries w s) * w - n * w) s ys ≡ t
      place =
          rw (z, mid_len (n * w) _ s entries_end, Post-is (n * w) (length (entries w s) * w) s (mul-le-mul_right w (le_of_lt h)), ← bytes, add-mul, add-sub_cancel_left, append_assoc)

      r : Replaced w n m s (replicate (m * w) 0) t
      r = replaced w n m s (replicate (m * w) 0) pos (rw (← entries_length w s) (omega arith)) (length-replicate (m * w) 0)

      zeroed : entries w t ≡ take n (entries w s) ++ replicate (length (entries w s) - n) 0
      zeroed = rw (r.entries_new, entries_zero w m pos, all, drop-length, append-nil)

  pub cleared_none : length (entries w s) ≤ n → Cleared w s s n
  cleared_none h = record { entries_zero = same; remainder_kept = refl; length_kept = refl }
    where
      same : entries w s ≡ take n (entries w s) ++ replicate (length (entries w s) - n) 0
      same =
          let z : length (entries w s) - n ≡ 0 = omega arith in
          rw (z, take_all n (entries w s) h, append-nil)

-- ---- a list filled from the front

fill_suc : (n : ℕ) (f : ℕ → ℕ) (d : List ℕ) → n < length d → set (up_to n f ++ drop n d) n (f n) ≡ up_to (suc n) f ++ drop (suc n) d
unfolding up_to
fill_suc n f [] l = absurd (omega arith)
fill_suc zero f (x ∷ d) l = refl
fill_suc (suc n) f (x ∷ d) l = ap (λ (t : List ℕ). f 0 ∷ t) (fill_suc n (λ k. f (suc k)) d (le_of_suc-le-suc l))

pub column_length : (w : ℕ) (s : List ℕ) (i d n : ℕ) → length (column w s i d n) ≡ n
unfolding column
column_length w s i d n = up_to_length n (λ k. num w s (i + k * d))

pub column_none : (w : ℕ) (s : List ℕ) (i d : ℕ) (xs : List ℕ) → xs ≡ column w s i d 0 ++ drop 0 xs
unfolding column up_to
column_none w s i d xs = refl

-- one more number is stored
pub column_fill : (w : ℕ) (s : List ℕ) (i d k : ℕ) (xs : List ℕ) → k < length xs → set (column w s i d k ++ drop k xs) k (num w s (i + k * d)) ≡ column w s i d (k + 1) ++ drop (k + 1) xs
unfolding column
column_fill w s i d k xs h = rw add-one (fill_suc k (λ j. num w s (i + j * d)) xs h)

-- a column, number by number
pub column_zero : (w : ℕ) (s : List ℕ) (i d : ℕ) → column w s i d 0 ≡ []
unfolding column up_to
column_zero w s i d = refl

pub column_suc : (w : ℕ) (s : List ℕ) (i d n : ℕ) → column w s i d (suc n) ≡ num w s i ∷ column w s (i + d) d n
unfolding column up_to
column_suc w s i d n =
    ap₂ ◌∷◌ (simp (zero-mul, add-zero))
    (up_to_ext n (λ k. num w s (i + suc k * d)) (λ k. num w s (i + d + k * d)) (λ k h. ap (num w s) (omega arith)))
