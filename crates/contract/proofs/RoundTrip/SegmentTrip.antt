-- The segments that were written are read back, with the running totals. Assumes nothing.
use mathlib.Core.Path.{◌≡◌, refl}
use mathlib.Core.Bool.{Bool, true, false, cond}
use mathlib.Core.List.{List, [], ◌∷◌, ◌++◌, flatten, append_assoc}
use Prim.Native.Nat.{ℕ, ◌+◌, ◌*◌, ◌≤◌}
use native.Mathlib.Nat.{add_assoc, add-zero}
use native.Mathlib.Omega.{arith}
use lib.Dec.{eqb}
use lib.ListN.{length}
use borrow.Author.Tests.{le-leb, eq-eqb}
use Rattle.area.specs.Entries.{digits}
use Rattle.area.proofs.Laws.{digits_length}
use Rattle.contract.specs.Res.{Res, ok, bind, test}
use Rattle.contract.specs.Contract.{Contract, limit}
use Rattle.contract.specs.Segments.{Sums, cost_value, segment, segments, size, skip}
use Rattle.contract.specs.Valid.{sum, total}
use Rattle.contract.specs.Serialize.{segment_bytes}
use Rattle.contract.proofs.RoundTrip.Rest.{Rest, cut, past, at_end}
use Rattle.contract.proofs.Lengths.{segment_length}
use Rattle.contract.proofs.RoundTrip.FieldTrip.{ranged_is, amount_is}
use Rattle.contract.proofs.RoundTrip.SegmentsFit.{Fits, AllFit, none, more}

-- ---- the first segment, and what is left after it

module _ {s : List ℕ} {i : ℕ} {ps : List (List ℕ)} {p : Bool} {u c v : ℕ} {us cs vs : List ℕ} (f : Fits p u c v) (fs : AllFit p us cs vs)
    (h : Rest s i (segment_bytes p (u ∷ us) (c ∷ cs) (v ∷ vs) ∷ ps)) where
  pub from_units : Rest s i (cond p (digits 1 u) [] ∷ digits 4 c ∷ digits 4 v ∷ segment_bytes p us cs vs ∷ ps)
  unfolding segment_bytes flatten
  from_units = cut _ (simp append_assoc) h

  pub from_cost : Rest s (i + skip p) (digits 4 c ∷ digits 4 v ∷ segment_bytes p us cs vs ∷ ps)
  from_cost = past (skip_length p) from_units
    where
      skip_length : (p : Bool) → length (cond p (digits 1 u) []) ≡ skip p
      skip_length false = refl
      skip_length true = digits_length 1 u

  pub from_value : Rest s (i + skip p + 4) (digits 4 v ∷ segment_bytes p us cs vs ∷ ps)
  from_value = past (digits_length 4 c) from_cost

  pub from_next : Rest s (i + size p) (segment_bytes p us cs vs ∷ ps)
  unfolding segment_bytes flatten
  from_next = past (segment_length p u c v) (cut ((cond p (digits 1 u) [] ++ digits 4 c ++ digits 4 v) ∷ segment_bytes p us cs vs ∷ ps) (simp append_assoc) h)

-- ---- running totals

-- totals t stay within the limits as the segments are added
pub record Within (t : Sums) (us cs vs : List ℕ) : Type 0 where
  pub units : t.units + sum us ≤ 1000
  pub cost : t.cost + total us cs ≤ limit
  pub value : t.value + total us vs ≤ limit

-- the totals after a segment
abbrev after : Bool → Sums → ℕ → ℕ → ℕ → Sums
after p t u c v = record { at = t.at + size p; units = t.units + cond p u 0; cost = t.cost + u * c; value = t.value + u * v }

still_within : (p : Bool) {t : Sums} {u c v : ℕ} {us cs vs : List ℕ} → Within t (u ∷ us) (c ∷ cs) (v ∷ vs) → Within (after p t u c v) us cs vs
unfolding sum total
still_within false w = omega arith
still_within true w = omega arith

cost_value_is : {s : List ℕ} {ps : List (List ℕ)} (t : Sums) (n c v : ℕ) → c ≤ limit → v ≤ limit → t.cost + n * c ≤ limit → t.value + n * v ≤ limit
    → Rest s t.at (digits 4 c ∷ digits 4 v ∷ ps)
    → cost_value s t n ≡ ok (record { at = t.at + 8; units = t.units; cost = t.cost + n * c; value = t.value + n * v })
unfolding cost_value
cost_value_is t n c v cl vl ct vt h = simp (amount_is c cl n t.cost ct h, amount_is v vl n t.value vt (past (digits_length 4 c) h), add_assoc)

segment_is : {s : List ℕ} {ps : List (List ℕ)} (p : Bool) (t : Sums) {u c v : ℕ} {us cs vs : List ℕ} → Fits p u c v → Within t (u ∷ us) (c ∷ cs) (v ∷ vs)
    → Rest s t.at (cond p (digits 1 u) [] ∷ digits 4 c ∷ digits 4 v ∷ ps) → segment p s t ≡ ok (after p t u c v)
unfolding segment sum total flatten
segment_is {ps = ps} false t {u} {c} {v} f w h =
    rw (← f.single refl, add-zero) (cost_value_is t u c v f.cost f.value (omega arith) (omega arith) (cut (digits 4 c ∷ digits 4 v ∷ ps) refl h))
segment_is true t {u} {c} {v} f w h =
    let t' : Sums = record { at = t.at + 1; units = t.units + u; cost = t.cost; value = t.value } in
    simp (
      ranged_is 1 u h 255 (omega arith) f.low f.high,
      le-leb (t.units + u) 1000 (omega arith),
      cost_value_is t' u c v f.cost f.value (omega arith) (omega arith) (past (digits_length 1 u) h),
      add_assoc,
    )

-- the segments are read, and with them the record ends
pub segments_end : {s : List ℕ} {p : Bool} (t : Sums) {us cs vs : List ℕ} (x : Res Contract) → AllFit p us cs vs → Within t us cs vs
    → Rest s t.at (segment_bytes p us cs vs ∷ []) → bind (segments p s (length cs) t) (λ d. test 7 (eqb d.at (length s)) x) ≡ x
unfolding segments segment_bytes flatten
segments_end {s} t x none w h = rw (eq-eqb t.at (length s) (at_end (cut [] refl h)))
segments_end {p = p} t x (more f fs) w h = rw (segment_is p t f w (from_units f fs h)) (segments_end (after p t _ _ _) x fs (still_within p w) (from_next f fs h))
