-- Bounds in a byte area. Assumes nothing.
use mathlib.Core.Path.{◌≡◌, refl, ap, ◌∙◌}
use mathlib.Core.List.{List}
use Prim.Native.Nat.{ℕ, ◌+◌, ◌≤◌, ◌<◌}
use native.Mathlib.Omega.{arith}
use borrow.Author.Tests.{le-leb, lt-leb}
use lib.IntN.{ℤ, pos, negsuc}
use lib.ListN.{length}
use lib.Seq.{sets}
use mir.Syntax.{w64}
use mir.Val.{SFits, to_z, of_z}
use mir.Facts.{to_z-of_z}
use Rattle.std.specs.Prelude.{Result}
use Rattle.area.specs.Entries.{digits}
use Rattle.area.proofs.Laws.{digits_length, sets_append}
use Rattle.contract.specs.Res.{Res, refused, ok}
use Rattle.exchange.specs.declared.Bounds.{Bounds}
use Rattle.planning.specs.Answer.{bounded_of}
use Rattle.planning.specs.Bounds.{bounds_of}
use Rattle.planning.specs.declared.BoundsError.{BoundsError}
use Rattle.yolkgorge.specs.Number.{code_of, or_short}
use Rattle.yolkgorge.specs.Limits.{bits_of, two_in, bounds_for, LeavesBounds}

-- two's complement
bits_are : (z : ℤ) → of_z w64 z ≡ bits_of z
bits_are (pos n) = refl
bits_are (negsuc n) = refl

pub bits_read : (z : ℤ) → SFits w64 z → {n : ℕ} → n ≡ of_z w64 (to_z w64 (of_z w64 z)) → n ≡ bits_of z
bits_read z h e = e ∙ ap (of_z w64) (to_z-of_z {w = w64} h) ∙ bits_are z

-- ---- two numbers in an area

pub two_stored : (s : List ℕ) (low high : ℕ) {t u : List ℕ} → t ≡ sets s 0 (digits 8 low) → u ≡ sets t 8 (digits 8 high) → u ≡ two_in s low high
unfolding two_in
two_stored s low high f g =
    let size : length (digits 8 low) ≡ 8 = digits_length 8 low in
    let there : 8 ≡ 0 + length (digits 8 low) = omega arith in
    g ∙ ap (λ (r : List ℕ). sets r 8 (digits 8 high)) f ∙ ap (λ (k : ℕ). sets (sets s 0 (digits 8 low)) k (digits 8 high)) there
    ∙ sets_append s 0 (digits 8 low) (digits 8 high)

-- ---- the answer

short_leaves : (said : Res Bounds) (r : ℕ) (s : List ℕ) → r ≡ code_of (or_short said) → LeavesBounds (or_short said) r s s
short_leaves (refused e) r s f = record { number_is = f; area_is = refl }
short_leaves (ok b) r s f = record { number_is = f; area_is = refl }

module _ (bytes : List ℕ) (place : ℕ) (order s : List ℕ) (answer : Result Bounds BoundsError) (r : ℕ) where
  pub bounds_short : length s < 16 → bounded_of answer ≡ bounds_of bytes 0 order → r ≡ code_of (or_short (bounded_of answer))
      → LeavesBounds (bounds_for bytes place order s) r s s
  unfolding bounds_for
  bounds_short h e f = rw (lt-leb 16 (length s) h, ← e) (short_leaves (bounded_of answer) r s f)

  pub bounds_kept : (u : List ℕ) → 16 ≤ length s → bounded_of answer ≡ bounds_of bytes place order → LeavesBounds (bounded_of answer) r s u
      → LeavesBounds (bounds_for bytes place order s) r s u
  unfolding bounds_for
  bounds_kept u h e l = rw (le-leb 16 (length s) h, ← e) l
