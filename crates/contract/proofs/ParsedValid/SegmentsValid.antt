-- A ladder, or a contract with unit prices, that was read is valid. Assumes nothing.
use mathlib.Core.Path.{◌≡◌, refl, subst}
use mathlib.Core.Bool.{Bool, true, false, cond}
use mathlib.Core.List.{List, []}
use Prim.Native.Nat.{ℕ}
use native.Mathlib.Omega.{arith}
use lib.Dec.{leb, ltb, eqb}
use lib.ListN.{length, replicate}
use lib.Seq.{take-length}
use borrow.Author.Tests.{le-leb}
use Rattle.area.specs.Entries.{num, column}
use Rattle.area.proofs.Laws.{column_length}
use Rattle.contract.specs.Res.{ok}
use Rattle.contract.specs.Contract.{Contract, limit}
use Rattle.contract.specs.Field.{Head}
use Rattle.contract.specs.Segments.{Sums, from, segments, segment_count, segment_contract, segment_body, size}
use Rattle.contract.specs.Valid.{in_range, sum, total, amounts_within, rises, Valid}
use Rattle.contract.specs.declared.Form.{Form}
use Rattle.contract.specs.declared.Form.TheVariants.{Ladder, UnitPrices}
use Rattle.contract.proofs.ParsedValid.ResLaws.{ok_inv, bind_inv, test_inv, Gives, passed}
use Rattle.contract.proofs.ParsedValid.FieldLaws.{field_at, Ranged, ranged_gives, HeadWithin}
use Rattle.contract.proofs.ParsedValid.HeadValid.{headed, within_limit_lem}
use Rattle.contract.proofs.ParsedValid.SegmentLaws.{units_from, Within, Priced, segments_priced, segments_units}

-- the form whose segments are units of a ladder (false) or items (true)
abbrev form_by : Bool → Form
form_by p = cond p UnitPrices Ladder

-- the bytes of their count
abbrev count_size : Bool → ℕ
count_size p = cond p 1 2

-- the most of them
abbrev most : Bool → ℕ
most p = cond p 8 1000

count_gives : (p : Bool) (s : List ℕ) (i : ℕ) → Gives (segment_count p s i) (Ranged (count_size p) (most p) s i) (field_at (count_size p) s i)
unfolding segment_count
count_gives false s i = ranged_gives 2 1000 s i
count_gives true s i = ranged_gives 1 8 s i

column_within : (p : Bool) (s : List ℕ) (i j n : ℕ) → Within (units_from p s i n) (column 4 s j (size p) n) 0
    → amounts_within (form_by p) (cond p (column 1 s i 9 n) []) (column 4 s j (size p) n) ≡ true
unfolding amounts_within
column_within false s i j n w = rw (w.each, column_length, le-leb (total (replicate n 1) (column 4 s j 8 n)) limit (omega arith))
column_within true s i j n w = rw (w.each, le-leb (total (column 1 s i 9 n) (column 4 s j 9 n)) limit (omega arith))

contract_valid : (p : Bool) (s : List ℕ) (h : Head) (n i : ℕ) (d : Sums) → HeadWithin h.price h.supplier h.buyer
    → ltb 0 n ≡ true → leb n (most p) ≡ true → segments p s n (from i) ≡ ok d → Valid (segment_contract p s (headed (form_by p) h) n i)
unfolding segment_contract in_range rises
contract_valid false s h n i d w low high e =
    let priced : Priced false s n (from i) = segments_priced false s n (from i) d (omega arith) (omega arith) e in
    record {
      range = rw (column_length, low, high);
      units_counted = refl;
      costs_counted = refl;
      values_counted = simp column_length;
      within = within_limit_lem _ w (column_within false s i _ n priced.costs) (column_within false s i _ n priced.values);
      costs_rise = refl;
      values_rise = refl;
    }
contract_valid true s h n i d w low high e =
    let priced : Priced true s n (from i) = segments_priced true s n (from i) d (omega arith) (omega arith) e in
    let (units, together) = segments_units s n (from i) d (omega arith) e in
    record {
      range = rw (column_length, low, high, units, le-leb (sum (column 1 s i 9 n)) 1000 (omega arith));
      units_counted = take-length (column 1 s i 9 n);
      costs_counted = simp column_length;
      values_counted = simp column_length;
      within = within_limit_lem _ w (column_within true s i _ n priced.costs) (column_within true s i _ n priced.values);
      costs_rise = refl;
      values_rise = refl;
    }

pub segments_valid : (p : Bool) (s : List ℕ) (h : Head) (k : Contract) → HeadWithin h.price h.supplier h.buyer
    → segment_body p s (headed (form_by p) h) ≡ ok k → Valid k
unfolding segment_body
segments_valid p s h k w e =
    let n : ℕ = num (count_size p) s h.next in
    let (count, e₁) = passed (count_gives p s h.next) _ e in
    let (d, ed, e₂) = bind_inv (segments p s n (from _)) _ e₁ in
    let (_, e₃) = test_inv (eqb d.at (length s)) _ _ e₂ in
    subst Valid (ok_inv e₃) (contract_valid p s h n _ d w count.low count.high ed)
