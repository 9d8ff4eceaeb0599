-- Bounds in a byte area of sixteen bytes: the lower, then the upper, each with a sign in eight bytes, little-endian.
use Rattle.std.specs.Prelude.{◌≡◌, cond, List, ◌++◌, ℕ, suc, ◌-◌, ◌^◌, leb, ℤ, pos, negsuc, length}
use Rattle.std.proofs.lemmas.List.Edits.{sets}
use Rattle.area.specs.Entries.{digits}
use Rattle.contract.specs.Res.{Res, refused, ok}
use Rattle.exchange.specs.declared.Bounds.{Bounds}
use Rattle.planning.specs.Bounds.{bounds_of}
use Rattle.yolkgorge.specs.Number.{code_of, or_short}

-- 64 bits with a sign, two's complement: n is itself, −(n + 1) is 2 ^ 64 − (n + 1)
abbrev pub bits_of : ℤ → ℕ
bits_of (pos n) = n
bits_of (negsuc n) = 2 ^ 64 - suc n

-- an area with two numbers in its first sixteen bytes
unfoldable pub two_in : List ℕ → ℕ → ℕ → List ℕ
two_in s low high = sets s 0 (digits 8 low ++ digits 8 high)

-- the area after an answer: the bounds are stored, or the area is as it was on a refusal
abbrev pub limits_after : List ℕ → Res Bounds → List ℕ
limits_after s (refused e) = s
limits_after s (ok b) = two_in s (bits_of b.lower) (bits_of b.upper)

-- the bounds of a place, by the area for them. Where it is too short the refusals ahead of 8 are those of place 0, which is never above L
unfoldable pub bounds_for : List ℕ → ℕ → List ℕ → List ℕ → Res Bounds
bounds_for bytes place order area = cond (leb 16 (length area)) (bounds_of bytes place order) (or_short (bounds_of bytes 0 order))

-- the result is the answer's number, and the area is left as the answer says
pub record LeavesBounds (said : Res Bounds) (r : ℕ) (before after : List ℕ) : Type 0 where
  pub number_is : r ≡ code_of said
  pub area_is : after ≡ limits_after before said
