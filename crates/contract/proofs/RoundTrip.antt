-- What is written of a valid contract is read back as that contract. Assumes nothing.
pub mod Rest
pub mod FieldTrip
pub mod HeadTrip
pub mod SegmentsFit
pub mod SegmentTrip
pub mod ColumnTrip
pub mod SegmentBody
pub mod UnitsTrip
pub mod GridTrip
pub mod TableTrip
use mathlib.Core.Path.{◌≡◌, refl, ap, ◌∙◌}
use mathlib.Core.Bool.{true, false, and-eq-true_iff}
use mathlib.Core.List.{List, flatten, append_assoc}
use Prim.Native.Nat.{ℕ, zero, suc, ◌≤◌}
use native.Mathlib.Omega.{arith}
use lib.ListN.{length, replicate}
use borrow.Author.Tests.{leb-true, ltb-true}
use Rattle.grid.specs.Rows.{rows_of}
use Rattle.contract.specs.Res.{ok}
use Rattle.contract.specs.Contract.{Contract}
use Rattle.contract.specs.Valid.{Valid, in_range, within_limit, amounts_within, rises, sum}
use Rattle.contract.specs.Parse.{parse, body_at}
use Rattle.contract.specs.Serialize.{serialize, body_bytes}
use Rattle.contract.specs.declared.Form.{Form}
use Rattle.contract.specs.declared.Form.TheVariants.{Ladder, UnitPrices, Table}
use Rattle.contract.proofs.RoundTrip.Rest.{cut}
use Rattle.contract.proofs.RoundTrip.HeadTrip.{head_of, head_is, from_body}
use Rattle.contract.proofs.RoundTrip.SegmentsFit.{ladder_fits, prices_fit}
use Rattle.contract.proofs.RoundTrip.SegmentBody.{segment_body_lem}
use Rattle.contract.proofs.RoundTrip.TableTrip.{TableFits, table_body_lem}

-- the body of a valid contract is read back
abbrev BodyTrip : Contract → Type 0
BodyTrip k = Valid k → body_at k.form (serialize k) (head_of k) ≡ ok k

-- the units of a ladder, one a segment
sum_ones : (n : ℕ) → sum (replicate n 1) ≡ n
unfolding sum
sum_ones zero = refl
sum_ones (suc n) = omega (arith, sum_ones n)

module _ (p a b : ℕ) (us cs vs : List ℕ) where
  -- the contract of each form with these amounts and lists
  abbrev make : Form → Contract
  make f = record { price = p; supplier = a; buyer = b; form = f; units = us; costs = cs; values = vs }

  ladder_trip : BodyTrip (make Ladder)
  unfolding body_bytes in_range within_limit amounts_within flatten
  ladder_trip v =
      let (low, high) = simp and-eq-true_iff at v.range in
      let ((_, (cs-in, cs-total)), (vs-in, vs-total)) = simp and-eq-true_iff at v.within in
      let most : length cs ≤ 1000 = leb-true _ _ high in
      segment_body_lem false (head_of (make Ladder)) (ladder_fits cs vs v.values_counted cs-in vs-in) (ltb-true _ _ low) most (omega (arith, sum_ones (length cs)))
      (leb-true _ _ cs-total) (rw (← v.values_counted) (leb-true _ _ vs-total)) (cut _ (simp append_assoc) (from_body (make Ladder)))
      ∙ ap (λ us. ok (record { price = p; supplier = a; buyer = b; form = Ladder; units = us; costs = cs; values = vs })) v.units_counted

  prices_trip : BodyTrip (make UnitPrices)
  unfolding body_bytes in_range within_limit amounts_within flatten
  prices_trip v =
      let (((low, high), us-in), all) = simp and-eq-true_iff at v.range in
      let ((_, (cs-in, cs-total)), (vs-in, vs-total)) = simp and-eq-true_iff at v.within in
      segment_body_lem true (head_of (make UnitPrices)) (prices_fit us cs vs v.costs_counted v.values_counted us-in cs-in vs-in)
      (rw v.costs_counted (ltb-true _ _ low)) (rw v.costs_counted (leb-true _ _ high)) (leb-true _ _ all)
      (leb-true _ _ cs-total) (leb-true _ _ vs-total) (cut _ (simp (append_assoc, v.costs_counted)) (from_body (make UnitPrices)))

  table_trip : BodyTrip (make Table)
  unfolding body_bytes in_range within_limit amounts_within rises flatten
  table_trip v =
      let (((low, high), us-in), rows) = simp and-eq-true_iff at v.range in
      let ((_, cs-in), vs-in) = simp and-eq-true_iff at v.within in
      let cs_rows : length cs ≡ rows_of us = rw v.units_counted at v.costs_counted in
      let vs_rows : length vs ≡ rows_of us = rw v.units_counted at v.values_counted in
      let fits : TableFits us cs vs =
      record {
        low = ltb-true _ _ low;
        high = leb-true _ _ high;
        units = us-in;
        rows = leb-true _ _ rows;
        costs_counted = cs_rows;
        values_counted = vs_rows;
        costs = cs-in;
        values = vs-in;
        costs_rise = rw cs_rows at v.costs_rise;
        values_rise = rw vs_rows at v.values_rise;
      } in
      table_body_lem (head_of (make Table)) fits (cut _ (simp append_assoc) (from_body (make Table)))

  body_trip : (f : Form) → BodyTrip (make f)
  body_trip Ladder = ladder_trip
  body_trip UnitPrices = prices_trip
  body_trip Table = table_trip

pub round_trip : (k : Contract) → Valid k → parse (serialize k) ≡ ok k
unfolding parse within_limit
round_trip k v =
    let ((((price, supplier), buyer), _), _) = simp and-eq-true_iff at v.within in
    rw (head_is k (leb-true _ _ price) (leb-true _ _ supplier) (leb-true _ _ buyer))
    (body_trip k.price k.supplier k.buyer k.units k.costs k.values k.form v)
