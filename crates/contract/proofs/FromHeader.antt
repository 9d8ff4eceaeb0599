-- A valid contract is found again from its header and from areas that begin with its costs and values; areas of so many entries as its form has at most have room for it.
-- Assumes nothing.
use mathlib.Core.Path.{◌≡◌, refl, sym, ap, ◌∙◌}
use mathlib.Core.Bool.{and-eq-true_iff}
use mathlib.Core.List.{List, [], ◌++◌}
use Prim.Native.Nat.{ℕ, ◌≤◌}
use native.Mathlib.Nat.{le_trans}
use native.Mathlib.Omega.{arith}
use lib.ListN.{length, take}
use lib.Seq.{take-append_seam}
use borrow.Author.Tests.{leb-true, le-leb}
use Rattle.grid.specs.Rows.{rows_of}
use Rattle.contract.specs.Res.{Res, refused, ok}
use Rattle.contract.specs.Contract.{Contract, header_of, contract_of}
use Rattle.contract.specs.Valid.{Valid, in_range}
use Rattle.contract.specs.Parse.{parse, sized, reading}
use Rattle.contract.specs.declared.Form.{Form}
use Rattle.contract.specs.declared.Form.TheVariants.{Ladder, UnitPrices, Table}
use Rattle.contract.proofs.ParsedValid.{parsed_valid}

-- the front of an area
front : (n : ℕ) (xs ys : List ℕ) → length xs ≡ n → take n (xs ++ ys) ≡ xs
front n xs ys e = rw (← e) (take-append_seam xs ys)

module _ (p a b : ℕ) (us cs vs xs ys : List ℕ) where
  -- the contract of each form with these amounts and lists
  abbrev make : Form → Contract
  make f = record { price = p; supplier = a; buyer = b; form = f; units = us; costs = cs; values = vs }

  -- the same with other lists
  abbrev with : Form → List ℕ → List ℕ → List ℕ → Contract
  with f u c v = record { price = p; supplier = a; buyer = b; form = f; units = u; costs = c; values = v }

  -- what the header and the areas give
  abbrev Back : Form → Type 0
  Back f = Valid (make f) → contract_of (header_of (make f)) (cs ++ xs) (vs ++ ys) ≡ make f

  made : (f : Form) (u c v : List ℕ) → u ≡ us → c ≡ cs → v ≡ vs → with f u c v ≡ make f
  made f u c v eu ec ev = rw (eu, ec, ev) refl

  back : (f : Form) → Back f
  back Ladder v = made Ladder _ _ _ v.units_counted (front _ cs xs refl) (front _ vs ys v.values_counted)
  back UnitPrices v =
      made UnitPrices _ _ _ (take-append_seam us _) (front _ cs xs v.costs_counted) (front _ vs ys v.values_counted)
  back Table v =
      let e : take (length us) (us ++ _) ≡ us = take-append_seam us _ in
      let n : rows_of (take (length us) us) ≡ rows_of us = ap rows_of v.units_counted in
      made Table _ _ _ e (front _ cs xs (v.costs_counted ∙ n ∙ sym (ap rows_of e))) (front _ vs ys (v.values_counted ∙ n ∙ sym (ap rows_of e)))

-- the contract of its own header
pub from_header : (k : Contract) (xs ys : List ℕ) → Valid k → contract_of (header_of k) (k.costs ++ xs) (k.values ++ ys) ≡ k
from_header k xs ys v = back k.price k.supplier k.buyer k.units k.costs k.values xs ys k.form v

-- how many costs, or values, a contract of each form has at most
abbrev pub most_entries : Form → ℕ
most_entries Ladder = 1000
most_entries UnitPrices = 8
most_entries Table = 128

few_entries : (k : Contract) → Valid k → (length k.costs ≤ most_entries k.form) × (length k.values ≤ most_entries k.form)
unfolding in_range
few_entries k v = go k.price k.supplier k.buyer k.units k.costs k.values k.form v
  where
    go : (p a b : ℕ) (us cs vs : List ℕ) (f : Form) → Valid (make p a b us cs vs [] [] f) → (length cs ≤ most_entries f) × (length vs ≤ most_entries f)
    go p a b us cs vs Ladder v =
        let (_, high) = simp and-eq-true_iff at v.range in
        let h : length cs ≤ 1000 = leb-true _ _ high in
        (h, omega (arith, v.values_counted))
    go p a b us cs vs UnitPrices v =
        let (((_, high), _), _) = simp and-eq-true_iff at v.range in
        let h : length us ≤ 8 = leb-true _ _ high in
        (omega (arith, v.costs_counted), omega (arith, v.values_counted))
    go p a b us cs vs Table v =
        let (_, high) = simp and-eq-true_iff at v.range in
        let h : rows_of us ≤ 128 = leb-true _ _ high in
        let n : rows_of (take (length us) us) ≡ rows_of us = ap rows_of v.units_counted in
        (omega (arith, v.costs_counted), omega (arith, v.values_counted))

-- so areas with room for them are never too short
pub reading_all : (s : List ℕ) (n : ℕ) → ((k : Contract) → parse s ≡ ok k → most_entries k.form ≤ n) → reading s n n ≡ parse s
unfolding reading sized
reading_all s n room = go (parse s) refl
  where
    go : (r : Res Contract) → parse s ≡ r → sized r n n ≡ r
    go (refused m) e = refl
    go (ok k) e =
        let (c, v) = few_entries k (parsed_valid s k e) in
        rw (le-leb _ _ (le_trans c (room k e)), le-leb _ _ (le_trans v (room k e))) refl
