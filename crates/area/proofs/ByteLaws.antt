-- An area of bytes is known by its entries, its remainder and its length; and whatever entries fit into its width, there is one that holds
-- them. Assumes nothing.
use mathlib.Core.Path.{◌≡◌, refl, sym, ap, ◌∙◌}
use mathlib.Core.Logic.{dite}
use mathlib.Core.List.{List, [], ◌∷◌, ◌++◌, append_assoc, append-nil}
use Prim.Native.Nat.{ℕ, zero, suc, ◌+◌, ◌-◌, ◌*◌, ◌/◌, ◌%◌, ◌^◌, ◌≤◌, ◌<◌}
use native.Mathlib.Nat.{add-zero, add_comm, zero-mul, one-mul, suc-mul, mod-lt, div-eq_of_lt, div-add-mod', le-div_iff_mul-le, one-le-pow}
use native.Mathlib.Decide.{dec_lt}
use native.Mathlib.Omega.{arith}
use lib.ListN.{length, get_or, drop, replicate, length-append, length-drop, length-replicate}
use lib.Seq.{ext_get_or, get_or-drop}
use Rattle.area.specs.Entries.{Bytes, num, digits, up_to, entries, remainder}
use Rattle.area.specs.Filled.{Filled}
use Rattle.area.proofs.Laws.{digits_length, digits_byte, entries_length, entries_at, entries_append, remainder_append, entries_digits}

-- ---- at most one

module _ (s t : List ℕ) (bs : Bytes s) (bt : Bytes t) where
  -- a number says its bytes
  num_bytes : (w i : ℕ) → num w s i ≡ num w t i → (j : ℕ) → j < w → get_or s (i + j) 0 ≡ get_or t (i + j) 0
  unfolding num
  num_bytes zero i e j h = absurd (omega arith)
  num_bytes (suc w) i e zero h = rw add-zero (omega (arith, bs i, bt i))
  num_bytes (suc w) i e (suc j) h =
      let next : num w s (i + 1) ≡ num w t (i + 1) = omega (arith, bs i, bt i) in
      let q : i + 1 + j ≡ i + suc j = omega arith in
      rw q at (num_bytes w (i + 1) next j (omega arith))

  same_bytes : (w : ℕ) → 0 < w → entries w s ≡ entries w t → remainder w s ≡ remainder w t → length s ≡ length t → s ≡ t
  unfolding remainder
  same_bytes w pos e r l = ext_get_or 0 s t l at_each
    where
      at_each : (i : ℕ) → i < length s → get_or s i 0 ≡ get_or t i 0
      at_each i h = dite (dec_lt (i / w) (length s / w)) in_entry after
        where
          in_entry : i / w < length s / w → get_or s i 0 ≡ get_or t i 0
          in_entry q =
              let q' : i / w < length t / w = rw l at q in
              let same : num w s (i / w * w) ≡ num w t (i / w * w) =
              sym (entries_at w s (i / w) q) ∙ ap (λ (xs : List ℕ). get_or xs (i / w) 0) e ∙ entries_at w t (i / w) q' in
              rw (div-add-mod' i w) at (num_bytes w (i / w * w) same (i % w) (mod-lt i pos))

          after : (i / w < length s / w → ⊥) → get_or s i 0 ≡ get_or t i 0
          after q =
              let past : length s / w * w ≤ i = (le-div_iff_mul-le pos).0 (omega arith) in
              let back : length s / w * w + (i - length s / w * w) ≡ i = omega arith in
              let same : drop (length s / w * w) s ≡ drop (length s / w * w) t = rw (← l) at r in
              let at_it = ap (λ (xs : List ℕ). get_or xs (i - length s / w * w) 0) same in
              rw back at (sym (get_or-drop (length s / w * w) s (i - length s / w * w) 0) ∙ at_it ∙ get_or-drop (length s / w * w) t (i - length s / w * w) 0)

-- what an area is filled with says its bytes
pub filled_same : (w : ℕ) (xs ys before s t : List ℕ) → 0 < w → Bytes s → Bytes t → xs ≡ ys → Filled w xs before s → Filled w ys before t → s ≡ t
filled_same w xs ys before s t pos bs bt e f g =
    same_bytes s t bs bt w pos (f.entries_are ∙ rw e (sym g.entries_are)) (f.remainder_kept ∙ sym g.remainder_kept)
    (f.length_kept ∙ sym g.length_kept)

-- ---- at least one

-- every number of a list is below a bound
abbrev pub Below : ℕ → List ℕ → Type 0
Below n s = (i : ℕ) → get_or s i 0 < n

pub below_append : (n : ℕ) (s t : List ℕ) → Below n s → Below n t → Below n (s ++ t)
below_append n [] t bs bt i = bt i
below_append n (x ∷ s) t bs bt zero = bs 0
below_append n (x ∷ s) t bs bt (suc i) = below_append n s t (λ k. bs (suc k)) bt i

pub below_zeros : (n k : ℕ) → 0 < n → Below n (replicate k 0)
below_zeros n zero h i = h
below_zeros n (suc k) h zero = h
below_zeros n (suc k) h (suc i) = below_zeros n k h i

module _ (w : ℕ) (pos : 0 < w) where
  -- numbers of w bytes each, one after the other
  abbrev bytes_of : List ℕ → List ℕ
  bytes_of [] = []
  bytes_of (x ∷ xs) = digits w x ++ bytes_of xs

  bytes_of_lem : (xs : List ℕ) → Bytes (bytes_of xs)
  bytes_of_lem [] i = omega arith
  bytes_of_lem (x ∷ xs) i = below_append 256 (digits w x) (bytes_of xs) (digits_byte w x) (bytes_of_lem xs) i

  of_length : (xs : List ℕ) → length (bytes_of xs) ≡ length xs * w
  of_length [] = sym (zero-mul w)
  of_length (x ∷ xs) = rw (length-append, digits_length, of_length xs, suc-mul, add_comm)

  one_entry : (x : ℕ) → length (digits w x) ≡ 1 * w
  one_entry x = digits_length w x ∙ sym (one-mul w)

  of_entries : (xs rest : List ℕ) → Below (256 ^ w) xs → entries w (bytes_of xs ++ rest) ≡ xs ++ entries w rest
  of_entries [] rest h = refl
  of_entries (x ∷ xs) rest h =
      rw (append_assoc, entries_append w 1 (digits w x) (bytes_of xs ++ rest) pos (one_entry x), entries_digits w x pos (h 0))
      (ap (λ (l : List ℕ). x ∷ l) (of_entries xs rest (λ k. h (suc k))))

  of_remainder : (xs rest : List ℕ) → remainder w (bytes_of xs ++ rest) ≡ remainder w rest
  of_remainder [] rest = refl
  of_remainder (x ∷ xs) rest = rw (append_assoc, remainder_append w 1 (digits w x) (bytes_of xs ++ rest) pos (one_entry x)) (of_remainder xs rest)

  -- a remainder is its own one, and has no entry
  module _ (s : List ℕ) where
    short : length (remainder w s) / w ≡ 0
    unfolding remainder
    short = rw (length-drop) (div-eq_of_lt (omega (arith, div-add-mod' (length s) w, mod-lt (length s) pos)))

    no_entry : entries w (remainder w s) ≡ []
    unfolding entries up_to
    no_entry = rw short

    own_remainder : remainder w (remainder w s) ≡ remainder w s
    unfolding remainder
    own_remainder = rw (short, zero-mul)

    whole : length s / w * w + length (remainder w s) ≡ length s
    unfolding remainder
    whole = rw length-drop (omega (arith, div-add-mod' (length s) w))

    remainder_bytes : Bytes s → Bytes (remainder w s)
    unfolding remainder
    remainder_bytes b i = rw get_or-drop (b _)

  -- numbers and zeros, one for each entry
  many : (xs zeros before : List ℕ) → length xs ≤ length (entries w before) → length zeros ≡ length (entries w before) - length xs
      → length (xs ++ zeros) ≡ length before / w
  many xs zeros before l e = omega (arith, length-append xs zeros, entries_length w before)

  -- an area can be filled with any numbers that its entries can hold
  pub filled_exists : (xs before : List ℕ) → Bytes before → Below (256 ^ w) xs → length xs ≤ length (entries w before)
      → (after : List ℕ) × (Filled w xs before after × Bytes after)
  filled_exists xs before b h l =
      let free = length (entries w before) - length xs in
      let zeros : List ℕ = replicate free 0 in
      let all = xs ++ zeros in
      let fit : Below (256 ^ w) all = below_append (256 ^ w) xs zeros h (below_zeros (256 ^ w) free (one-le-pow w 256 (omega arith))) in (
        bytes_of all ++ remainder w before,
        (
          record {
            entries_are = rw (of_entries all (remainder w before) fit, no_entry before, append-nil);
            remainder_kept = of_remainder all (remainder w before) ∙ own_remainder before;
            length_kept = rw (length-append (bytes_of all) (remainder w before), of_length all, many xs zeros before l (length-replicate _ 0)) (whole before);
          },
          below_append 256 (bytes_of all) (remainder w before) (bytes_of_lem all) (remainder_bytes before b),
        ),
      )
