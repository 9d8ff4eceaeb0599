-- A number's decimal digits: those that `io::decimal` gives are the definition's, and how many there are. Assumes nothing.
use mathlib.Core.Path.{◌≡◌, refl}
use mathlib.Core.Bool.{Bool, true, false, cond}
use mathlib.Core.List.{[], ◌∷◌, ◌++◌}
use Prim.Native.Nat.{ℕ, zero, suc, ◌+◌, ◌-◌, ◌*◌, ◌/◌, ◌%◌, ◌^◌, ◌≤◌, ◌<◌}
use native.Mathlib.Nat.{le_of_suc-le-suc, lt_of_not-le, pow-suc, pow-le-pow_right}
use native.Mathlib.Omega.{arith}
use borrow.Author.Tests.{lt-ltb, ltb-true, ltb-false}
use lib.Dec.{ltb}
use lib.ListN.{length, length-append}
use Rattle.io.specs.Digits.{hex_digit_ascii, last_digits, IsDigitCount}
use Rattle.text.specs.Text.{spelt}

ten : 0 < 10
ten = omega arith

-- a digit below ten
glyph_ten : (n : ℕ) → hex_digit_ascii (n % 10) ≡ 48 + n % 10
glyph_ten n = rw (lt-ltb (n % 10) 10 (omega arith))

-- a number below ten has one digit
one_digit : (n k : ℕ) → n < 10 → IsDigitCount 10 1 n (suc k) → k ≡ 0
one_digit n zero h f = refl
one_digit n (suc k) h f =
    let back : suc (suc k) - 1 ≡ suc k = omega arith in
    let least : 10 ^ suc k ≤ n = rw back at (f.2 (omega arith)) in
    let one : 1 ≤ suc k = omega arith in
    let p : 10 ^ 1 ≤ 10 ^ suc k = pow-le-pow_right ten one in
    absurd (omega arith)

-- without its last digit a number has one digit fewer
fewer : (n k : ℕ) → 10 ≤ n → IsDigitCount 10 1 n (suc k) → IsDigitCount 10 1 (n / 10) k
fewer n zero h f = let below : n < 10 ^ 1 = f.1 in absurd (omega arith)
fewer n (suc k) h f =
    let below : n < 10 ^ suc k * 10 = rw (← pow-suc 10 (suc k)) f.1 in
    let back : suc (suc k) - 1 ≡ suc k = omega arith in
    let least : 10 ^ suc k ≤ n = rw back at (f.2 (omega arith)) in
    let split : 10 ^ suc k ≡ 10 ^ k * 10 = pow-suc 10 k in
    let one : suc k - 1 ≡ k = omega arith in
    (omega arith, omega arith, λ _. rw one (omega arith))

-- the fewest digits are those of the definition
pub spelt_is : (j k n : ℕ) → IsDigitCount 10 1 n k → k ≤ j → last_digits 10 k n ≡ spelt j n
unfolding spelt
spelt_is j zero n f h = let one : 1 ≤ 0 = f.0 in absurd (omega arith)
spelt_is zero (suc k) n f h = absurd (omega arith)
spelt_is (suc j) (suc k) n f h = go (ltb n 10) refl (λ low. spelt_is j k (n / 10) (fewer n k low f) (le_of_suc-le-suc h))
  where
    go : (b : Bool) → ltb n 10 ≡ b → (10 ≤ n → last_digits 10 k (n / 10) ≡ spelt j (n / 10))
        → last_digits 10 (suc k) n ≡ cond b ((48 + n) ∷ []) (spelt j (n / 10) ++ ((48 + n % 10) ∷ []))
    go true e ih =
        let low : n < 10 = ltb-true n 10 e in
        let same : n % 10 ≡ n = omega arith in
        rw (one_digit n k low f, glyph_ten n, same)
    go false e ih = rw (glyph_ten n, ih (ltb-false n 10 e))

-- a number below ten to the j has at most j digits
pub few_digits : (j k n : ℕ) → n < 10 ^ j → 0 < j → IsDigitCount 10 1 n k → k ≤ j
few_digits j k n small some fewest = le_of_suc-le-suc (lt_of_not-le more)
  where
    more : j < k → ⊥
    more over =
        let p : 10 ^ (k - 1) ≤ n = fewest.2 (omega arith) in
        let rest : j ≤ k - 1 = omega arith in
        let q : 10 ^ j ≤ 10 ^ (k - 1) = pow-le-pow_right ten rest in
        omega arith

pub spelt_short : (k j n : ℕ) → n < 10 ^ suc j → length (spelt k n) ≤ suc j
unfolding spelt
spelt_short zero j n h = omega arith
spelt_short (suc k) j n h = go (ltb n 10) refl j h (λ i. spelt_short k i (n / 10))
  where
    go : (b : Bool) → ltb n 10 ≡ b → (j : ℕ) → n < 10 ^ suc j → ((i : ℕ) → n / 10 < 10 ^ suc i → length (spelt k (n / 10)) ≤ suc i)
        → length (cond b ((48 + n) ∷ []) (spelt k (n / 10) ++ ((48 + n % 10) ∷ []))) ≤ suc j
    go true e j h ih = omega arith
    go false e zero h ih = let low : 10 ≤ n = ltb-false n 10 e in absurd (omega arith)
    go false e (suc j) h ih =
        let split : 10 ^ suc (suc j) ≡ 10 ^ suc j * 10 = pow-suc 10 (suc j) in
        let rest : length (spelt k (n / 10)) ≤ suc j = ih j (omega arith) in
        omega (arith, length-append (spelt k (n / 10)) ((48 + n % 10) ∷ []))
