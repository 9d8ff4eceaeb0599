-- The body of a ladder and of unit prices is read back. Assumes nothing.
use mathlib.Core.Path.{◌≡◌, refl, ap, ◌∙◌}
use mathlib.Core.Bool.{Bool, true, false, cond}
use mathlib.Core.List.{List, [], ◌∷◌}
use Prim.Native.Nat.{ℕ, ◌+◌, ◌≤◌, ◌<◌}
use native.Mathlib.Omega.{arith}
use lib.ListN.{length}
use Rattle.area.specs.Entries.{digits}
use Rattle.area.proofs.Laws.{digits_length}
use Rattle.contract.specs.Res.{ok}
use Rattle.contract.specs.Contract.{Contract, limit}
use Rattle.contract.specs.Field.{Head}
use Rattle.contract.specs.Segments.{from, segment_count, segment_contract, segment_body}
use Rattle.contract.specs.Valid.{sum, total}
use Rattle.contract.specs.Serialize.{segment_bytes}
use Rattle.contract.proofs.RoundTrip.Rest.{Rest, past}
use Rattle.contract.proofs.RoundTrip.FieldTrip.{ranged_is}
use Rattle.contract.proofs.RoundTrip.SegmentsFit.{AllFit}
use Rattle.contract.proofs.RoundTrip.SegmentTrip.{segments_end}
use Rattle.contract.proofs.RoundTrip.ColumnTrip.{Columns, columns}

-- the bytes of the count
abbrev pub count_size : Bool → ℕ
count_size p = cond p 1 2

count_is : {s : List ℕ} {i : ℕ} {ps : List (List ℕ)} (p : Bool) (n : ℕ) → 0 < n → n ≤ cond p 8 1000 → Rest s i (digits (count_size p) n ∷ ps)
    → segment_count p s i ≡ ok (record { value = n; next = i + count_size p })
unfolding segment_count
count_is false n low high h = ranged_is 2 n h 1000 (omega arith) low high
count_is true n low high h = ranged_is 1 n h 8 (omega arith) low high

-- the contract of a head and its segments
abbrev pub segments_of : Bool → Head → List ℕ → List ℕ → List ℕ → Contract
segments_of p h us cs vs = record { price = h.price; supplier = h.supplier; buyer = h.buyer; form = h.form; units = cond p us []; costs = cs; values = vs }

contract_is : {s : List ℕ} {i : ℕ} (p : Bool) (h : Head) {us cs vs : List ℕ} → Columns p s i us cs vs → segment_contract p s h (length cs) i ≡ segments_of p h us cs vs
unfolding segment_contract
contract_is false h c = rw (c.costs, c.values)
contract_is true h c = rw (c.units refl, c.costs, c.values)

pub segment_body_lem : {s : List ℕ} (p : Bool) (h : Head) {us cs vs : List ℕ} → AllFit p us cs vs → 0 < length cs → length cs ≤ cond p 8 1000
    → sum us ≤ 1000 → total us cs ≤ limit → total us vs ≤ limit
    → Rest s h.next (digits (count_size p) (length cs) ∷ segment_bytes p us cs vs ∷ []) → segment_body p s h ≡ ok (segments_of p h us cs vs)
unfolding segment_body
segment_body_lem p h {cs = cs} f low high units cost value r =
    let first = past (digits_length (count_size p) (length cs)) r in
    rw (count_is p (length cs) low high r)
    (segments_end (from (h.next + count_size p)) _ f (omega arith) first ∙ ap ok (contract_is p h (columns f first)))
