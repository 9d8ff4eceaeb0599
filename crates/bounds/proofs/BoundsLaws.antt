-- The answers to a question for bounds. Assumes nothing.
use mathlib.Core.Path.{◌≡◌, refl, ◌∙◌, ap, subst, sym}
use mathlib.Core.Bool.{true, false, true≢false}
use mathlib.Core.List.{List}
use Prim.Native.Nat.{ℕ, ◌≤◌, ◌<◌}
use native.Mathlib.Omega.{arith}
use lib.ListN.{length}
use borrow.Author.Tests.{le-leb, lt-leb}
use Rattle.std.proofs.Common.{Result, Ok, Err, IsOk, Option, Some, IfSome}
use Rattle.grid.specs.Rows.{rows_of}
use Rattle.grid.proofs.RowLaws.{rows_pos}
use Rattle.contract.specs.Res.{Res, refused, ok}
use Rattle.contract.specs.Contract.{Contract}
use Rattle.contract.specs.Parse.{parse}
use Rattle.contract.specs.Valid.{Valid}
use Rattle.contract.specs.declared.Form.TheVariants.{UnitPrices, Table}
use Rattle.exchange.specs.Forms.{table}
use Rattle.exchange.specs.Test.{bounds_at}
use Rattle.exchange.specs.declared.Bounds.{Bounds}
use Rattle.exchange.specs.declared.Sides.{Sides}
use Rattle.exchange.specs.declared.Unfit.{Unfit}
use Rattle.line.specs.Segments.{deal_along}
use Rattle.line.specs.BoundsPromise.{has_place, BoundsOf}
use Rattle.planning.specs.Deals.{contract_with, last_place}
use Rattle.planning.specs.Order.{names_order, deal_by}
use Rattle.planning.specs.Bounds.{bounds_in, bounds_of}
use Rattle.planning.proofs.TablePlan.{costs_rows, values_rows}
use Rattle.planning.proofs.TermsLaws.{valid_as, prices_last, table_last, table_deal}
use Rattle.planning.specs.Terms.{contract_in}
use Rattle.planning.specs.declared.terms.Terms.{Terms}
use Rattle.sizes.specs.Units.{units_few}
use Rattle.sizes.proofs.UnitLaws.{units_few_lem}
use Rattle.bounds.specs.Places.{row_bounds}

-- ---- the answer along segments

module _ (s : Sides) (us cs vs : List ℕ) (x : ℕ) (h : has_place us cs vs x ≡ true) (r : Result Bounds Unfit) (a : BoundsOf s us cs vs x r) where
  -- a place that they have is not refused
  pub bounds_known : IsOk r
  bounds_known = go r a
    where
      go : (y : Result Bounds Unfit) → BoundsOf s us cs vs x y → IsOk y
      go (Ok b) g = refl
      go (Err e) g = absurd (true≢false (sym h ∙ g))

  pub bounds_between : (b : Bounds) → r ≡ Ok b → ◌≡◌ {A = Res Bounds} (ok b) (ok (bounds_at (deal_along s us cs vs) x))
  bounds_between b e = ap ok (subst (BoundsOf s us cs vs x) e a).1

-- ---- unit prices: all units, by the number of the code

pub units_sum : (t : Terms) (r : Option ℕ) (u : ℕ) → IfSome r (λ n. n ≡ units_few t.units.now) → r ≡ Some u → t.form ≡ UnitPrices → u ≡ last_place (contract_in t)
units_sum t r u value e form =
    let f : u ≡ units_few t.units.now = rw e at value in
    f ∙ units_few_lem t.units.now t.few_items ∙ sym (prices_last t form)

-- ---- the bounds of a row

module _ (t : Terms) (form : t.form ≡ Table) where
  v : Valid (contract_with Table t.sides t.units.now t.costs.now t.values.now)
  v = valid_as t form

  rows : length t.costs.now ≡ rows_of t.units.now
  rows = costs_rows t.sides t.units.now t.costs.now t.values.now v

  pub row_bounds_are : (x : ℕ) → row_bounds t.sides t.costs.now t.values.now x ≡ bounds_at (table t.sides t.units.now t.costs.now t.values.now) x
  row_bounds_are x = rw (rows, values_rows t.sides t.units.now t.costs.now t.values.now v) refl

  pub row_bounds_by : (order : List ℕ) (x : ℕ) → row_bounds t.sides t.costs.now t.values.now x ≡ bounds_at (deal_by (contract_in t) order) x
  row_bounds_by order x = rw (table_deal t form order) (row_bounds_are x)

  -- a row above the last
  pub row_above : (x : ℕ) → length t.costs.now ≤ x → last_place (contract_in t) < x
  row_above x h = omega (arith, rows, rows_pos t.units.now, table_last t form)

  pub row_within : (x : ℕ) → x < length t.costs.now → x ≤ last_place (contract_in t)
  row_within x h = omega (arith, rows, table_last t form)

-- ---- the answer by the tests on the way

module _ (k : Contract) (x : ℕ) (order : List ℕ) where
  pub bounds_short : length order < 8 → refused 8 ≡ bounds_in k x order
  bounds_short h = rw (lt-leb 8 (length order) h) refl

  module _ (eight : 8 ≤ length order) where
    pub bounds_above : last_place k < x → refused 5 ≡ bounds_in k x order
    bounds_above h = rw (le-leb 8 (length order) eight, lt-leb x (last_place k) h) refl

    module _ (h : x ≤ last_place k) where
      pub bounds_unnamed : names_order k order ≡ false → refused 12 ≡ bounds_in k x order
      bounds_unnamed e = rw (le-leb 8 (length order) eight, le-leb x (last_place k) h, e) refl

      pub bounds_found : names_order k order ≡ true → {r : Res Bounds} → r ≡ ok (bounds_at (deal_by k order) x) → r ≡ bounds_in k x order
      bounds_found e f = f ∙ rw (le-leb 8 (length order) eight, le-leb x (last_place k) h, e) refl

-- the same for the same contract
pub bounds_same : (x : ℕ) (order : List ℕ) {k j : Contract} {r : Res Bounds} → k ≡ j → r ≡ bounds_in j x order → r ≡ bounds_in k x order
bounds_same x order {k} {j} {r} e f = subst (λ (i : Contract). r ≡ bounds_in i x order) (sym e) f

-- ---- the answer for a record

module _ (bytes : List ℕ) (x : ℕ) (order : List ℕ) where
  pub bounds_refused : {n : ℕ} → parse bytes ≡ refused n → refused n ≡ bounds_of bytes x order
  unfolding bounds_of
  bounds_refused e = rw e refl

  pub bounds_read : {k : Contract} → parse bytes ≡ ok k → {r : Res Bounds} → r ≡ bounds_in k x order → r ≡ bounds_of bytes x order
  unfolding bounds_of
  bounds_read e f = f ∙ rw e refl
