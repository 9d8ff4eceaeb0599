-- Finding has one answer to each record: no two answers keep its promise. Assumes nothing.
use mathlib.Core.Path.{◌≡◌, refl, sym, ap, ◌∙◌}
use mathlib.Core.Logic.{inl, inr}
use mathlib.Core.Bool.{cond}
use mathlib.Core.List.{List}
use Prim.Native.Nat.{ℕ}
use native.Mathlib.Omega.{arith}
use lib.Dec.{eqb}
use lib.ListN.{length}
use Rattle.std.proofs.Common.{Result, Ok, Err}
use Rattle.area.proofs.Laws.{column_length}
use Rattle.contract.specs.Res.{refused}
use Rattle.contract.specs.Contract.{Contract, number_of}
use Rattle.contract.specs.Field.{Head}
use Rattle.contract.specs.Serialize.{form_bits}
use Rattle.contract.specs.Valid.{sum}
use Rattle.contract.specs.declared.Form.{Form}
use Rattle.contract.specs.declared.Refusal.{Refusal}
use Rattle.contract.specs.declared.Refusal.TheVariants.{Truncated, Map, Value, Limit, Range, Falling, Trailing, Short}
use Rattle.contract.proofs.ParsedValid.ResLaws.{never, refused_inv, ok_inv}
use Rattle.record.specs.Find.{LadderFound, HeadFound, OtherFound, ladder_in, Finds, sought}
use Rattle.record.specs.declared.Ladder.{Ladder}
use Rattle.record.specs.declared.Found.{Found}
use Rattle.record.proofs.FindLaws.{sought_refused, other_none}

-- ---- refusals

-- the refusal with a number
abbrev refusal_by : ℕ → Refusal
refusal_by n =
    cond (eqb n 1) Truncated (
    cond (eqb n 2) Map (
    cond (eqb n 3) Value (cond (eqb n 4) Limit (cond (eqb n 5) Range (cond (eqb n 6) Falling (cond (eqb n 7) Trailing Short))))))

by_number : (e : Refusal) → refusal_by (number_of e) ≡ e
by_number Truncated = refl
by_number Map = refl
by_number Value = refl
by_number Limit = refl
by_number Range = refl
by_number Falling = refl
by_number Trailing = refl
by_number Short = refl

same_refusal : (s : List ℕ) (e f : Refusal) → sought s ≡ refused (number_of e) → sought s ≡ refused (number_of f) → e ≡ f
same_refusal s e f p q = sym (by_number e) ∙ ap refusal_by (refused_inv (sym p ∙ q)) ∙ by_number f

-- ---- ladders

-- a ladder is its fields
made : ℕ → ℕ → ℕ → ℕ → ℕ → ℕ → ℕ → Ladder
made p a b i n c v = record { price = p; supplier = a; buyer = b; first = i; count = n; cost = c; value = v }

same_ladder : (s : List ℕ) (l m : Ladder) → LadderFound s l → LadderFound s m → l ≡ m
unfolding made
same_ladder s l m f g =
    let e : ladder_in s l ≡ ladder_in s m = ok_inv (sym f.says ∙ g.says) in
    let price : l.price ≡ m.price = ap (λ (k : Contract). k.price) e in
    let supplier : l.supplier ≡ m.supplier = ap (λ (k : Contract). k.supplier) e in
    let buyer : l.buyer ≡ m.buyer = ap (λ (k : Contract). k.buyer) e in
    let long = ap (λ (k : Contract). length k.costs) e in
    let count : l.count ≡ m.count = omega (arith, long, column_length 4 s l.first 8 l.count, column_length 4 s m.first 8 m.count) in
    let first : l.first ≡ m.first = omega (arith, f.ends, g.ends) in
    let cost : l.cost ≡ m.cost = f.cost_is ∙ ap (λ (k : Contract). sum k.costs) e ∙ sym g.cost_is in
    let value : l.value ≡ m.value = f.value_is ∙ ap (λ (k : Contract). sum k.values) e ∙ sym g.value_is in
    let same : made l.price l.supplier l.buyer l.first l.count l.cost l.value
    ≡ made m.price m.supplier m.buyer m.first m.count m.cost m.value = cc
    in same

-- ---- all answers

refused_ladder : (s : List ℕ) {n : ℕ} (l : Ladder) → sought s ≡ refused n → LadderFound s l → {X : Type 0} → X
refused_ladder s l p f = never (sym (sought_refused s p) ∙ f.says)

refused_head : (f : Form) (s : List ℕ) {n : ℕ} → sought s ≡ refused n → HeadFound f s → {X : Type 0} → X
refused_head f s p o = never (sym p ∙ o.says)

ladder_other : (s : List ℕ) (l : Ladder) → LadderFound s l → OtherFound s → {X : Type 0} → X
ladder_other s l f o = absurd (other_none s o (ladder_in s l) f.says refl)

-- two heads that were found name one form
same_form : (f g : Form) (s : List ℕ) → HeadFound f s → HeadFound g s → f ≡ g
same_form f g s o p = sym o.form_is ∙ ap (λ (h : Head). h.form) (ok_inv (sym o.says ∙ p.says)) ∙ p.form_is

-- unit prices are no table
two_forms : (s : List ℕ) → HeadFound Form.UnitPrices s → HeadFound Form.Table s → {X : Type 0} → X
two_forms s o p =
    let e : ◌≡◌ {A = ℕ} 2 4 = ap form_bits (same_form Form.UnitPrices Form.Table s o p) in
    absurd (omega arith)

found_same : (s : List ℕ) (a b : Found) → Finds s (Ok a) → Finds s (Ok b) → a ≡ b
found_same s (Found.Ladder l) (Found.Ladder m) p q = ap Found.Ladder (same_ladder s l m p q)
found_same s (Found.Ladder l) Found.UnitPrices p q = ladder_other s l p (inl q)
found_same s (Found.Ladder l) Found.Table p q = ladder_other s l p (inr q)
found_same s Found.UnitPrices (Found.Ladder l) p q = ladder_other s l q (inl p)
found_same s Found.UnitPrices Found.UnitPrices p q = refl
found_same s Found.UnitPrices Found.Table p q = two_forms s p q
found_same s Found.Table (Found.Ladder l) p q = ladder_other s l q (inr p)
found_same s Found.Table Found.UnitPrices p q = two_forms s q p
found_same s Found.Table Found.Table p q = refl

-- what is found is not refused
not_refused : (s : List ℕ) (a : Found) {n : ℕ} → sought s ≡ refused n → Finds s (Ok a) → {X : Type 0} → X
not_refused s (Found.Ladder l) p q = refused_ladder s l p q
not_refused s Found.UnitPrices p q = refused_head Form.UnitPrices s p q
not_refused s Found.Table p q = refused_head Form.Table s p q

pub found_one : (s : List ℕ) (a b : Result Found Refusal) → Finds s a → Finds s b → a ≡ b
found_one s (Err e) (Err f) p q = ap Err (same_refusal s e f p q)
found_one s (Err e) (Ok b) p q = not_refused s b p q
found_one s (Ok a) (Err e) p q = not_refused s a q p
found_one s (Ok a) (Ok b) p q = ap Ok (found_same s a b p q)
