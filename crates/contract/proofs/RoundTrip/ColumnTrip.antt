-- The units, costs and values of the segments that were written are read back, each as a column. Assumes nothing.
use mathlib.Core.Path.{◌≡◌, refl, ◌∙◌}
use mathlib.Core.Bool.{Bool, true}
use mathlib.Core.List.{List, ◌∷◌}
use Prim.Native.Nat.{ℕ, suc, ◌+◌}
use native.Mathlib.Omega.{arith}
use lib.ListN.{length}
use Rattle.area.specs.Entries.{num, column}
use Rattle.area.proofs.Laws.{column_zero, column_suc}
use Rattle.contract.specs.Segments.{size, skip}
use Rattle.contract.specs.Serialize.{segment_bytes}
use Rattle.contract.proofs.RoundTrip.Rest.{Rest, num_is}
use Rattle.contract.proofs.RoundTrip.SegmentsFit.{AllFit, none, more}
use Rattle.contract.proofs.RoundTrip.SegmentTrip.{from_units, from_cost, from_value, from_next}

-- the columns of the segments from index i on
pub record Columns (p : Bool) (s : List ℕ) (i : ℕ) (us cs vs : List ℕ) : Type 0 where
  pub units : p ≡ true → column 1 s i (size p) (length cs) ≡ us
  pub costs : column 4 s (i + skip p) (size p) (length cs) ≡ cs
  pub values : column 4 s (i + skip p + 4) (size p) (length cs) ≡ vs

-- a column of one number more
column_more : (w : ℕ) (s : List ℕ) (i j d n : ℕ) {x : ℕ} {xs : List ℕ} → num w s i ≡ x → column w s j d n ≡ xs → j ≡ i + d → column w s i d (suc n) ≡ x ∷ xs
column_more w s i j d n a b e = column_suc w s i d n ∙ rw (← e, a, b)

pub columns : {s : List ℕ} {p : Bool} {i : ℕ} {ps : List (List ℕ)} {us cs vs : List ℕ} → AllFit p us cs vs → Rest s i (segment_bytes p us cs vs ∷ ps) → Columns p s i us cs vs
columns {s} none h = record { units = λ _. column_zero 1 s _ _; costs = column_zero 4 s _ _; values = column_zero 4 s _ _ }
columns {s} {p} {i} (more {u} {c} {v} f fs) h =
    let next = columns {i = i + size p} fs (from_next f fs h) in
    record {
      units = λ e. column_more 1 s i _ _ _ (num_is 1 u (omega arith) (rw e at (from_units f fs h))) (next.units e) refl;
      costs = column_more 4 s _ _ _ _ (num_is 4 c (omega arith) (from_cost f fs h)) next.costs (omega arith);
      values = column_more 4 s _ _ _ _ (num_is 4 v (omega arith) (from_value f fs h)) next.values (omega arith);
    }
