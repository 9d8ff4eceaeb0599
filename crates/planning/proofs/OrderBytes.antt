-- The order that bytes name: it is an order of the contract, and the items say the bytes. Assumes nothing.
use mathlib.Core.Path.{◌≡◌, refl, sym, ap, ap₂, ◌∙◌}
use mathlib.Core.Bool.{true, and-eq-true_iff}
use mathlib.Core.List.{List, [], ◌∷◌, map}
use Prim.Native.Nat.{ℕ, zero, suc, ◌-◌, ◌≤◌, ◌<◌}
use native.Mathlib.Omega.{arith}
use lib.Dec.{eqb}
use lib.ListN.{length, get_or, take, drop, replicate, length-map, length-drop, take-append-drop}
use lib.Seq.{length-take-le, take-take}
use borrow.Author.Tests.{eqb-true}
use Rattle.contract.specs.Contract.{Contract}
use Rattle.contract.specs.Valid.{Valid}
use Rattle.contract.specs.declared.Form.{Form}
use Rattle.contract.specs.declared.Form.TheVariants.{Ladder, UnitPrices, Table}
use Rattle.exchange.specs.Chosen.{together}
use Rattle.exchange.specs.declared.Sides.{Sides}
use Rattle.exchange.proofs.Choice.ChosenLaws.{chosen_one}
use Rattle.exchange.proofs.Choice.Named.{each_below, named_order}
use Rattle.choice.specs.Promise.{numbered}
use Rattle.order.specs.Bytes.{all_zero, names_each, items_in}
use Rattle.order.proofs.NamedLaws.{names_split}
use Rattle.planning.specs.Deals.{sides_of, contract_with, OrderFor, OrderOf}
use Rattle.planning.specs.Order.{items_named, items_by, names_order, order_in, ChosenFor, NamesChosen}
use Rattle.planning.proofs.NamedOrder.{few_items}

-- ---- items that are named

-- at most eight
few_named : (f : Form) (p : Sides) (units costs values : List ℕ) → Valid (contract_with f p units costs values) → items_named f units ≤ 8
few_named Ladder p units costs values v = omega arith
few_named UnitPrices p units costs values v = few_items p units costs values v
few_named Table p units costs values v = omega arith

order_for : (f : Form) (units order : List ℕ) → items_named f units ≤ length order → names_each (items_named f units) order ≡ true
    → OrderFor f units (together units (items_in (items_named f units) order))
unfolding together
order_for Ladder units order h e = refl
order_for UnitPrices units order h e =
    named_order units (take (length units) order) (length-take-le (length units) order h) (names_split (length units) order e).0
order_for Table units order h e = refl

-- ---- the items say the bytes

zeros : (bytes : List ℕ) → all_zero bytes ≡ true → bytes ≡ replicate (length bytes) 0
unfolding all_zero
zeros [] e = refl
zeros (b ∷ bytes) e =
    let f = (and-eq-true_iff (eqb b 0) _).0 e in
    ap₂ ◌∷◌ (eqb-true _ _ f.0) (zeros bytes f.1)

back : (bs : List ℕ) → ((i : ℕ) → i < length bs → 0 < get_or bs i 0) → map suc (map (λ b. b - 1) bs) ≡ bs
back [] h = refl
back (zero ∷ bs) h = absurd (omega (arith, h 0 (omega arith)))
back (suc b ∷ bs) h = let q : suc b - 1 ≡ b = omega arith in ap₂ ◌∷◌ (ap suc q) (back bs (λ i l. h (suc i) (omega arith)))

-- eight bytes that name n items
pub first_eight : (n : ℕ) (order : List ℕ) → n ≤ 8 → 8 ≤ length order → names_each n order ≡ true → take 8 order ≡ numbered (items_in n order)
first_eight n order few long e =
    let (once, others) = names_split n order e in
    let size : length (take n order) ≡ n = length-take-le n order (omega arith) in
    let count : length (items_in n order) ≡ n = length-map (take n order) (λ b. b - 1) ∙ size in
    let left : length (drop n (take 8 order)) ≡ 8 - n = length-drop n (take 8 order) ∙ ap (λ (m : ℕ). m - n) (length-take-le 8 order long) in
    let front : take n (take 8 order) ≡ take n order = take-take n 8 order few in
    let rest : drop n (take 8 order) ≡ replicate (8 - n) 0 = zeros _ others ∙ ap (λ (m : ℕ). replicate m 0) left in
    let suc_back = back (take n order) (λ i l. (each_below n (take n order) (omega (arith, size)) once i l).0) in
    rw (suc_back, count) (sym (rw (front, rest) at (take-append-drop n (take 8 order))))

-- ---- there is one chosen order

items_same : (f : Form) (p : Sides) (units costs values l m : List ℕ) → ChosenFor f p units costs values (items_in (items_named f units) l)
    → ChosenFor f p units costs values (items_in (items_named f units) m) → items_in (items_named f units) l ≡ items_in (items_named f units) m
items_same Ladder p units costs values l m a b = refl
items_same UnitPrices p units costs values l m a b = chosen_one p units costs values _ _ a b
items_same Table p units costs values l m a b = refl

module _ (k : Contract) (v : Valid k) where
  few : items_named k.form k.units ≤ 8
  few = few_named k.form (sides_of k) k.units k.costs k.values v

  -- eight bytes name an order of the contract
  pub order_of : (order : List ℕ) → 8 ≤ length order → names_order k order ≡ true → OrderOf k (order_in k order)
  unfolding order_in
  order_of order long e = order_for k.form k.units order (omega (arith, few)) e

  -- there is only one order to choose
  pub order_same : (l m : List ℕ) → 8 ≤ length l → 8 ≤ length m → names_order k l ≡ true → names_order k m ≡ true
      → NamesChosen k l → NamesChosen k m → (items_by k l ≡ items_by k m) × (take 8 l ≡ take 8 m)
  unfolding order_in
  order_same l m long-l long-m named-l named-m a b =
      let same = items_same k.form (sides_of k) k.units k.costs k.values l m a b in
      (same, first_eight _ l few long-l named-l ∙ ap numbered same ∙ sym (first_eight _ m few long-m named-m))
