-- What the segments that were read say: units in range, amounts and totals within the limit. Assumes nothing.
use mathlib.Core.Path.{◌≡◌, refl, sym}
use mathlib.Core.Bool.{Bool, true, false, cond, false≢true}
use mathlib.Core.List.{List, [], ◌∷◌}
use Prim.Native.Nat.{ℕ, zero, suc, ◌+◌, ◌*◌, ◌≤◌}
use native.Mathlib.Nat.{add-zero}
use native.Mathlib.Omega.{arith}
use lib.Dec.{leb}
use lib.ListN.{replicate}
use borrow.Author.Tests.{leb-true, le-leb}
use Rattle.area.specs.Entries.{num, column}
use Rattle.contract.specs.Res.{ok}
use Rattle.contract.specs.Contract.{limit}
use Rattle.contract.specs.Segments.{Sums, cost_value, segment, segments, size, skip}
use Rattle.contract.specs.Table.{all_within}
use Rattle.contract.specs.Valid.{units_in_range, sum, total}
use Rattle.contract.proofs.ParsedValid.ResLaws.{ok_inv, test_inv, Gives, passed}
use Rattle.contract.proofs.ParsedValid.FieldLaws.{Ranged, ranged_gives, Lifted, amount_gives}
use Rattle.area.proofs.Laws.{column_zero, column_suc}

-- ---- one segment

cost_value_gives : (s : List ℕ) (c : Sums) (n : ℕ)
    → Gives (cost_value s c n) (Lifted s n c.cost c.at × Lifted s n c.value (c.at + 4))
    (record { at = c.at + 4 + 4; units = c.units; cost = c.cost + n * num 4 s c.at; value = c.value + n * num 4 s (c.at + 4) })
unfolding cost_value
cost_value_gives s c n d e =
    let (cost, e₁) = passed (amount_gives s n c.cost c.at) _ e in
    let (value, e₂) = passed (amount_gives s n c.value (c.at + 4)) _ e₁ in
    ((cost, value), sym (ok_inv e₂))

-- the units of the segment at index i: one of a ladder's
abbrev unit : Bool → List ℕ → ℕ → ℕ
unit p s i = cond p (num 1 s i) 1

-- the units, where they are stated, the cost and the value of the segment that follows the totals c
record Segment (p : Bool) (s : List ℕ) (c : Sums) : Type 0 where
  stated : p ≡ true → Ranged 1 255 s c.at × (c.units + num 1 s c.at ≤ 1000)
  cost : Lifted s (unit p s c.at) c.cost (c.at + skip p)
  value : Lifted s (unit p s c.at) c.value (c.at + skip p + 4)

-- the totals after it
abbrev after : Bool → List ℕ → Sums → Sums
after p s c =
    record {
      at = c.at + size p;
      units = c.units + cond p (num 1 s c.at) 0;
      cost = c.cost + unit p s c.at * num 4 s (c.at + skip p);
      value = c.value + unit p s c.at * num 4 s (c.at + skip p + 4);
    }

segment_gives : (p : Bool) (s : List ℕ) (c : Sums) → Gives (segment p s c) (Segment p s c) (after p s c)
unfolding segment
segment_gives false s c d e =
    let ((cost, value), q) = cost_value_gives s c 1 d e in
    let end : c.at + 4 + 4 ≡ c.at + 8 = omega arith in
    let one : Segment false s c = record { stated = λ t. absurd (false≢true t); cost = rw add-zero cost; value = rw (add-zero c.at) value } in
    (one, rw (add-zero c.at, add-zero c.units, ← end) q)
segment_gives true s c d e =
    let u : ℕ = num 1 s c.at in
    let (range, e₁) = passed (ranged_gives 1 255 s c.at) _ e in
    let (together, e₂) = test_inv (leb (c.units + u) 1000) _ _ e₁ in
    let ((cost, value), q) = cost_value_gives s (record { at = c.at + 1; units = c.units + u; cost = c.cost; value = c.value }) u d e₂ in
    let end : c.at + 1 + 4 + 4 ≡ c.at + 9 = omega arith in
    let one : Segment true s c = record { stated = λ _. (range, leb-true _ _ together); cost = cost; value = value } in
    (one, rw (← end) q)

-- ---- a run of segments

-- the units of each of n segments from index i on
abbrev pub units_from : Bool → List ℕ → ℕ → ℕ → List ℕ
units_from p s i n = cond p (column 1 s i 9 n) (replicate n 1)

units_zero : (p : Bool) (s : List ℕ) (i : ℕ) → units_from p s i 0 ≡ []
units_zero false s i = refl
units_zero true s i = column_zero 1 s i 9

units_suc : (p : Bool) (s : List ℕ) (i n : ℕ) → units_from p s i (suc n) ≡ unit p s i ∷ units_from p s (i + size p) n
units_suc false s i n = refl
units_suc true s i n = column_suc 1 s i 9 n

-- amounts are within the limit, and so is their total, us units of each, on top of t
pub record Within (us amounts : List ℕ) (t : ℕ) : Type 0 where
  pub each : all_within amounts ≡ true
  pub together : t + total us amounts ≤ limit

within_zero : (p : Bool) (s : List ℕ) (i j t : ℕ) → t ≤ limit → Within (units_from p s i 0) (column 4 s j (size p) 0) t
unfolding all_within total
within_zero p s i j t h = rw (units_zero p, column_zero) record { each = refl; together = omega arith }

-- a segment before n others: its units at index i, its amount at index j, the next amount at index k
within_suc : (p : Bool) (s : List ℕ) (n i j k t : ℕ) → k ≡ j + size p → Lifted s (unit p s i) t j
    → Within (units_from p s (i + size p) n) (column 4 s k (size p) n) (t + unit p s i * num 4 s j)
    → Within (units_from p s i (suc n)) (column 4 s j (size p) (suc n)) t
unfolding all_within total
within_suc p s n i j k t e a w =
    rw (units_suc p, column_suc, ← e) record { each = rw (le-leb _ _ a.each) w.each; together = omega arith }

-- the costs and the values of the n segments that follow the totals c
pub record Priced (p : Bool) (s : List ℕ) (n : ℕ) (c : Sums) : Type 0 where
  pub costs : Within (units_from p s c.at n) (column 4 s (c.at + skip p) (size p) n) c.cost
  pub values : Within (units_from p s c.at n) (column 4 s (c.at + skip p + 4) (size p) n) c.value

pub segments_priced : (p : Bool) (s : List ℕ) (n : ℕ) (c d : Sums) → c.cost ≤ limit → c.value ≤ limit → segments p s n c ≡ ok d → Priced p s n c
unfolding segments
segments_priced p s zero c d h g e = record { costs = within_zero p s _ _ _ h; values = within_zero p s _ _ _ g }
segments_priced p s (suc n) c d h g e =
    let (one, e₁) = passed (segment_gives p s c) _ e in
    let rest : Priced p s n (after p s c) = segments_priced p s n (after p s c) d one.cost.together one.value.together e₁ in
    record {
      costs = within_suc p s n _ _ _ _ (omega arith) one.cost rest.costs;
      values = within_suc p s n _ _ _ _ (omega arith) one.value rest.values;
    }

-- the units of n items, and all units together
pub segments_units : (s : List ℕ) (n : ℕ) (c d : Sums) → c.units ≤ 1000 → segments true s n c ≡ ok d
    → (units_in_range (column 1 s c.at 9 n) ≡ true) × (c.units + sum (column 1 s c.at 9 n) ≤ 1000)
unfolding segments units_in_range sum
segments_units s zero c d h e = rw column_zero (refl, omega arith)
segments_units s (suc n) c d h e =
    let (one, e₁) = passed (segment_gives true s c) _ e in
    let (unit-range, few) = one.stated refl in
    let (range, together) = segments_units s n (after true s c) d few e₁ in
    rw column_suc (rw (unit-range.low, unit-range.high) range, omega arith)
