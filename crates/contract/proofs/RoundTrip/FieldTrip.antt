-- Each field that was written is read back. Assumes nothing.
use mathlib.Core.Path.{◌≡◌, refl}
use mathlib.Core.Bool.{Bool, true, false, not}
use mathlib.Core.List.{List, ◌∷◌}
use Prim.Native.Nat.{ℕ, ◌+◌, ◌*◌, ◌^◌, ◌≤◌, ◌<◌}
use native.Mathlib.Nat.{add-zero}
use native.Mathlib.Omega.{arith}
use lib.Dec.{eqb}
use lib.ListN.{length}
use borrow.Author.Tests.{le-leb, lt-ltb, eqb-true, eqb-false}
use Rattle.area.specs.Entries.{digits}
use Rattle.area.proofs.Laws.{digits_length}
use Rattle.contract.specs.Res.{ok}
use Rattle.contract.specs.Contract.{limit}
use Rattle.contract.specs.Field.{field, ranged, money, amount}
use Rattle.contract.specs.Serialize.{money_bytes}
use Rattle.contract.proofs.RoundTrip.Rest.{Rest, num_is, room}

module _ {s : List ℕ} {i : ℕ} {ps : List (List ℕ)} (w v : ℕ) (h : Rest s i (digits w v ∷ ps)) where
  pub field_is : v < 256 ^ w → field w s i ≡ ok (record { value = v; next = i + w })
  unfolding field
  field_is l = simp (le-leb (i + w) (length s) (room (digits_length w v) h), num_is w v l h)

  pub ranged_is : (most : ℕ) → most < 256 ^ w → 0 < v → v ≤ most → ranged w most s i ≡ ok (record { value = v; next = i + w })
  unfolding ranged
  ranged_is most m low high = simp (field_is (omega arith), lt-ltb 0 v low, le-leb v most high)

module _ {s : List ℕ} {i : ℕ} {ps : List (List ℕ)} (v : ℕ) (l : v ≤ limit) where
  pub amount_is : (n t : ℕ) → t + n * v ≤ limit → Rest s i (digits 4 v ∷ ps) → amount s n t i ≡ ok (record { value = t + n * v; next = i + 4 })
  unfolding amount
  amount_is n t m h = simp (field_is 4 v h (omega arith), le-leb v limit l, le-leb (t + n * v) limit m)

  -- P, cs or cd; its bit stands where it is not 0
  pub money_is : Rest s i (money_bytes v ∷ ps) → money (not (eqb v 0)) s i ≡ ok (record { value = v; next = i + length (money_bytes v) })
  unfolding money money_bytes
  money_is h = go (eqb v 0) refl
    where
      go : (z : Bool) → eqb v 0 ≡ z → money (not (eqb v 0)) s i ≡ ok (record { value = v; next = i + length (money_bytes v) })
      go true e = let q : v ≡ 0 = eqb-true v 0 e in rw (q, add-zero)
      go false e =
          let low : 0 < v = omega (arith, eqb-false v 0 e) in
          simp (e, field_is 4 v (rw e at h) (omega arith), lt-ltb 0 v low, le-leb v limit l, digits_length)
