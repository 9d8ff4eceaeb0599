-- Segments that stand for a deal: those of unit prices along the order that bytes name. Assumes nothing.
use mathlib.Core.Path.{◌≡◌, sym, ap, ◌∙◌, subst}
use mathlib.Core.Bool.{Bool, true, false, not, ◌&&◌, and-eq-true_iff}
use mathlib.Core.List.{List}
use Prim.Native.Nat.{ℕ, ◌≤◌}
use native.Mathlib.Omega.{arith}
use lib.Dec.{leb}
use lib.ListN.{length, take}
use lib.Seq.{take-take}
use borrow.Author.Tests.{le-leb, not-true, not-false}
use Rattle.area.specs.Entries.{entries}
use Rattle.contract.specs.Res.{Res, ok}
use Rattle.contract.specs.Contract.{Contract}
use Rattle.contract.specs.Valid.{Valid, sum}
use Rattle.contract.specs.declared.Form.TheVariants.{UnitPrices}
use Rattle.exchange.specs.Deal.{Deal}
use Rattle.exchange.specs.Named.{each_once}
use Rattle.exchange.specs.Test.{bounds_at}
use Rattle.exchange.specs.declared.Bounds.{Bounds}
use Rattle.exchange.specs.declared.Sides.{Sides}
use Rattle.line.specs.Segments.{spread, deal_along, fits}
use Rattle.line.specs.BoundsPromise.{has_place}
use Rattle.line.specs.CheckPromise as line
use Rattle.order.specs.Bytes.{names_each, picked, first_eight}
use Rattle.order.proofs.FirstEight.{eight_front}
use Rattle.order.proofs.NamedLaws.{picked_take, names_split}
use Rattle.planning.specs.Deals.{contract_with}
use Rattle.planning.specs.Order.{order_in, deal_by}
use Rattle.planning.specs.Check.{holds_count}
use Rattle.planning.proofs.NamedOrder.{named_deal, named_units, named_fits}
use Rattle.planning.proofs.TermsLaws.{contract_as, valid_as}
use Rattle.planning.specs.Terms.{contract_in}
use Rattle.planning.specs.declared.terms.Terms.{Terms}

-- ---- segments that stand for a deal

-- they fit, and the deal along them is this one
pub record Along (s : Sides) (us cs vs : List ℕ) (d : Deal) : Type 0 where
  pub fit : fits us cs vs ≡ true
  pub deal_is : deal_along s us cs vs ≡ d

module _ (s : Sides) (us cs vs : List ℕ) (d : Deal) (a : Along s us cs vs d) where
  -- a place of the deal is one along the segments, with the same bounds
  pub along_place : (x : ℕ) → x ≤ d.last → has_place us cs vs x ≡ true
  unfolding has_place
  along_place x h =
      let e : length (spread us cs) ≡ d.last = ap (λ (y : Deal). y.last) a.deal_is in
      let f : x ≤ length (spread us cs) = omega arith in
      rw a.fit (le-leb _ _ f)

  pub along_bounds : (x : ℕ) {r : Res Bounds} → r ≡ ok (bounds_at (deal_along s us cs vs) x) → r ≡ ok (bounds_at d x)
  along_bounds x {r} e = subst (λ (y : Deal). r ≡ ok (bounds_at y x)) a.deal_is e

  -- areas with enough entries are so along the segments, with the same plans
  pub along_held : (count : ℕ) (places sums : List ℕ) → holds_count count places sums ≡ true → line.holds_count us cs vs count places sums ≡ true
  unfolding holds_count line.holds_count
  along_held count places sums e =
      let f = (and-eq-true_iff (leb count (length (entries 2 places))) _).0 e in
      rw (a.fit, f.0) f.1

-- ---- unit prices

module _ (t : Terms) (form : t.form ≡ UnitPrices) (order : List ℕ) (eight : 8 ≤ length order) where
  abbrev us : List ℕ
  us = t.units.now

  v : Valid (contract_with UnitPrices t.sides us t.costs.now t.values.now)
  v = valid_as t form

  -- the amounts that the first eight bytes pick are those that the bytes pick
  front : (xs : List ℕ) {named ys : List ℕ} → named ≡ first_eight order → ys ≡ picked xs named
      → take (length us) ys ≡ take (length us) (picked xs order)
  front xs {named} {ys} e f =
      let g : take (length us) (take 8 order) ≡ take (length us) order = take-take (length us) 8 order t.few_items in
      rw (f, e, eight_front order eight, picked_take (length us) xs (take 8 order), g)
      (sym (picked_take (length us) xs order))

  -- with each item named once
  module _ (named : names_each (length us) order ≡ true) where
    long : length us ≤ length order
    long = omega (arith, t.few_items)

    once : each_once (length us) (take (length us) order) ≡ true
    once = (names_split (length us) order named).0

    -- all units
    pub along_last : (deal_by (contract_in t) order).last ≡ sum us
    unfolding order_in
    along_last =
        subst (λ (k : Contract). (deal_by k order).last ≡ sum us) (sym (contract_as t form))
        (sym (ap (λ (d : Deal). d.last) (named_deal t.sides us t.costs.now t.values.now v order long once))
        ∙ named_units t.sides us t.costs.now t.values.now v order long once)

    -- the items in the order that the bytes name
    pub prices_along : {first us' cs' vs' : List ℕ} → first ≡ first_eight order → us' ≡ picked us first → cs' ≡ picked t.costs.now first → vs' ≡ picked t.values.now first
        → Along t.sides (take (length us) us') (take (length us) cs') (take (length us) vs') (deal_by (contract_in t) order)
    unfolding order_in
    prices_along e eu ec ev =
        rw (front us e eu, front t.costs.now e ec, front t.values.now e ev)
        (subst
        (λ (k : Contract). Along t.sides (take (length us) (picked us order)) (take (length us) (picked t.costs.now order)) (take (length us) (picked t.values.now order)) (deal_by k order))
        (sym (contract_as t form))
        (record {
          fit = named_fits t.sides us t.costs.now t.values.now v order long once;
          deal_is = named_deal t.sides us t.costs.now t.values.now v order long once;
        }))

-- ---- the test of the order bytes, of which there are eight, for no more than eight items
module _ (n : ℕ) (order : List ℕ) (few : n ≤ 8) (eight : 8 ≤ length order) {t : Bool}
    (e : t ≡ (leb n 8 && leb 8 (length order) && names_each n order)) where
  named : names_each n order ≡ t
  named = sym (e ∙ rw (le-leb _ _ few, le-leb _ _ eight))

  pub named_wrong : not t ≡ true → names_each n order ≡ false
  named_wrong q = named ∙ not-true t q

  pub named_right : not t ≡ false → names_each n order ≡ true
  named_right q = named ∙ not-false t q
