-- Words of rows: compared byte by byte they compare the units of the rows. Assumes nothing.
use mathlib.Core.Path.{◌≡◌, refl, sym, ap, ◌∙◌}
use mathlib.Core.Bool.{Bool, true, false, ◌&&◌}
use mathlib.Core.List.{List, [], ◌∷◌}
use Prim.Native.Nat.{ℕ, zero, suc, ◌+◌, ◌-◌, ◌*◌, ◌/◌, ◌%◌, ◌^◌, ◌<◌}
use native.Mathlib.Nat.{add-mul-div_right, div-div-eq-div-mul, add-mul-mod_self_right, div-lt_iff_lt-mul, mod-eq_of_lt, mul_assoc, pow-suc}
use native.Mathlib.Omega.{arith}
use borrow.Author.Tests.{le-leb}
use lib.Dec.{leb}
use Rattle.std.specs.Int.{w32, to_le_bytes}
use Rattle.std.specs.List.{list_all, zip}
use lib.ListN.{length}
use Rattle.grid.specs.Rows.{rows_of}
use Rattle.grid.specs.Units.{packed, Small}
use Rattle.grid.proofs.UnitLaws.{small_drop, units_lt, packed_small}
use Rattle.exchange.specs.Forms.{holds_row}
use Rattle.held.specs.Words.{holds_word}

-- ---- two words compared

and_swap : (x y z : Bool) → (x && (y && z)) ≡ (y && (x && z))
and_swap true true z = refl
and_swap true false z = refl
and_swap false true z = refl
and_swap false false z = refl

-- a byte less
less_byte : (n x : ℕ) → x < 256 ^ suc n → x / 256 < 256 ^ n
less_byte n x h = (div-lt_iff_lt-mul {k = 256} (omega arith)).1 (rw (← pow-suc 256 n) h)

-- a word and a byte above it
above : (n x d : ℕ) → ((x + d * 256 ^ suc n) % 256 ≡ x % 256) × ((x + d * 256 ^ suc n) / 256 ≡ x / 256 + d * 256 ^ n)
above n x d =
    let e : d * 256 ^ suc n ≡ d * 256 ^ n * 256 = rw (pow-suc 256 n) (sym (mul_assoc d (256 ^ n) 256)) in
    (rw e (add-mul-mod_self_right x (d * 256 ^ n) 256), rw e (add-mul-div_right x (d * 256 ^ n) (omega arith)))

-- the highest byte is compared like any other
word_top : (n x y d e : ℕ) → x < 256 ^ n → y < 256 ^ n → d < 256 → e < 256
    → holds_word (suc n) (x + d * 256 ^ n) (y + e * 256 ^ n) ≡ (leb d e && holds_word n x y)
unfolding holds_word
word_top zero x y d e hx hy hd he =
    let p : x + d * 256 ^ 0 ≡ d = omega arith in
    let q : y + e * 256 ^ 0 ≡ e = omega arith in
    rw (p, q, mod-eq_of_lt hd, mod-eq_of_lt he)
word_top (suc n) x y d e hx hy hd he =
    let p = above n x d in
    let q = above n y e in
    rw (p.0, p.1, q.0, q.1, word_top n (x / 256) (y / 256) d e (less_byte n x hx) (less_byte n y hy) hd he)
    (and_swap (leb (x % 256) (y % 256)) (leb d e) (holds_word n (x / 256) (y / 256)))

word_none : (c y : ℕ) → holds_word c 0 y ≡ true
unfolding holds_word
word_none zero y = refl
word_none (suc c) y = rw (le-leb 0 (y % 256) (omega arith)) (word_none c (y / 256))

-- bytes above the word are 0
word_more : (n c x y : ℕ) → x < 256 ^ n → holds_word (n + c) x y ≡ holds_word n x y
unfolding holds_word
word_more zero c x y h =
    let z : x ≡ 0 = omega arith in
    let s : 0 + c ≡ c = omega arith in
    rw (z, s) (word_none c y)
word_more (suc n) c x y h =
    let s : suc n + c ≡ suc (n + c) = omega arith in
    rw s (ap (λ (t : Bool). leb (x % 256) (y % 256) && t) (word_more n c (x / 256) (y / 256) (less_byte n x h)))

word_row : (us : List ℕ) (a b : ℕ) → Small us → holds_word (length us) (packed us a) (packed us b) ≡ holds_row us a b
unfolding holds_word holds_row packed
word_row [] a b s = refl
word_row (u ∷ us) a b s =
    let t = small_drop 1 (u ∷ us) s in
    word_top (length us) (packed us a) (packed us b) (a / rows_of us % (u + 1)) (b / rows_of us % (u + 1)) (packed_small us a t) (packed_small us b t)
    (omega (arith, units_lt u us a s)) (omega (arith, units_lt u us b s))
    ∙ rw (word_row us a b t)

-- the bytes of two words, each with its own
pub bytes_held : (x y : ℕ) (xs ys : List ℕ) → xs ≡ to_le_bytes w32 x → ys ≡ to_le_bytes w32 y → list_all (λ p. leb p.0 p.1) (zip xs ys) ≡ holds_word 4 x y
unfolding holds_word
bytes_held x y xs ys e f = rw (e, f) (simp div-div-eq-div-mul)

-- the words of two rows compare the rows
pub held_word : (us : List ℕ) (a b : ℕ) → Small us → holds_word 4 (packed us a) (packed us b) ≡ holds_row us a b
held_word us a b s =
    let e : length us + (4 - length us) ≡ 4 = omega (arith, s.items) in
    rw (← e) (word_more (length us) (4 - length us) (packed us a) (packed us b) (packed_small us a s) ∙ word_row us a b s)
