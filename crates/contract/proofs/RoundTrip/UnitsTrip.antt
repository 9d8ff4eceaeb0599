-- The units of a table's items that were written are read back. Assumes nothing.
use mathlib.Core.Path.{◌≡◌, refl}
use mathlib.Core.Bool.{true}
use mathlib.Core.List.{List, [], ◌∷◌, flat_map, flatten, append_assoc}
use Prim.Native.Nat.{ℕ, suc, ◌+◌, ◌%◌}
use native.Mathlib.Nat.{add-zero}
use native.Mathlib.Omega.{arith}
use lib.ListN.{length}
use Rattle.area.specs.Entries.{digits}
use Rattle.area.proofs.Laws.{digits_length}
use Rattle.contract.specs.Res.{ok}
use Rattle.contract.specs.Table.{units_at}
use Rattle.contract.specs.Valid.{units_in_range}
use Rattle.contract.proofs.RoundTrip.Rest.{Rest, cut, past}
use Rattle.contract.proofs.FirstEntry.{units_first}
use Rattle.contract.proofs.RoundTrip.FieldTrip.{ranged_is}

-- units in range are their own bytes
pub units_bytes : (us : List ℕ) → units_in_range us ≡ true → flat_map (digits 1) us ≡ us
unfolding digits flat_map
units_bytes [] h = refl
units_bytes (u ∷ us) h =
    let (low, high, more) = units_first u us h in
    let e : u % 256 ≡ u = omega arith in
    rw (e, units_bytes us more)

pub units_are : {s : List ℕ} {i : ℕ} {ps : List (List ℕ)} (us : List ℕ) → units_in_range us ≡ true → Rest s i (flat_map (digits 1) us ∷ ps)
    → units_at s (length us) i ≡ ok (i + length us)
unfolding units_at flat_map flatten
units_are [] h r = rw add-zero
units_are {i = i} {ps} (u ∷ us) h r =
    let (low, high, more) = units_first u us h in
    let g = cut (digits 1 u ∷ flat_map (digits 1) us ∷ ps) (simp append_assoc) r in
    let e : i + suc (length us) ≡ i + 1 + length us = omega arith in
    rw (ranged_is 1 u g 255 (omega arith) low high, e) (units_are {i = i + 1} us more (past (digits_length 1 u) g))
