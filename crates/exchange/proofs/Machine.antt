-- Signed 64-bit words: a difference of unsigned numbers, exact around zero, and a paid sum against a bound. Assumes nothing.
use mathlib.Core.Path.{◌≡◌, refl, ◌∙◌}
use mathlib.Core.Bool.{Bool, true, false, not, cond}
use Prim.Native.Nat.{ℕ, suc, ◌-◌, ◌^◌, ◌<◌}
use native.Mathlib.Omega.{arith}
use borrow.Author.Tests.{ltb-true, ltb-false}
use lib.Dec.{ltb}
use lib.IntN.{ℤ, pos, negsuc, sub_ℕ, ◌-ℤ◌}
use lib.Signed.{mag, le_z, lt_z}
use mir.Syntax.{w64}
use mir.Val.{SFits, to_z, of_z}
use mir.Facts.{to_z-of_z, to_z_pos}
use Rattle.exchange.proofs.Int.{pos_sub, le_z_not}

sub_fits : (a b : ℕ) → a < 2 ^ 63 → b < 2 ^ 63 → SFits w64 (sub_ℕ a b)
sub_fits a b ha hb = go (ltb a b) refl
  where
    go : (t : Bool) → ltb a b ≡ t → SFits w64 (cond t (negsuc (b - suc a)) (pos (a - b)))
    go true e = omega (arith, ltb-true)
    go false e = omega (arith, ltb-false)

-- two numbers that were cast to i64, subtracted: nothing wraps, and the word is read as a − b
pub difference : (a b : ℕ) → a < 2 ^ 63 → b < 2 ^ 63 → SFits w64 (to_z w64 a -ℤ to_z w64 b) × (to_z w64 (of_z w64 (to_z w64 a -ℤ to_z w64 b)) ≡ sub_ℕ a b)
difference a b ha hb =
    let e : to_z w64 a -ℤ to_z w64 b ≡ sub_ℕ a b = rw (to_z_pos w64 ha, to_z_pos w64 hb) (pos_sub a b) in
    let f : SFits w64 (to_z w64 a -ℤ to_z w64 b) = rw e (sub_fits a b ha hb) in
    (f, to_z-of_z {w = w64} f ∙ e)

-- ---- comparing a paid sum, cast to i64, with a bound

module _ (n : ℕ) (z : ℤ) (hn : n < 2 ^ 63) (hz : mag z < 2 ^ 63) where
  held : to_z w64 (of_z w64 z) ≡ z
  held = to_z-of_z {w = w64} (record { sfits = hz })

  pub low_test : le_z z (pos n) ≡ not (lt_z (to_z w64 n) (to_z w64 (of_z w64 z)))
  low_test = rw (held, to_z_pos w64 hn) (le_z_not (pos n) z)

  pub high_test : le_z (pos n) z ≡ not (lt_z (to_z w64 (of_z w64 z)) (to_z w64 n))
  high_test = rw (held, to_z_pos w64 hn) (le_z_not z (pos n))
