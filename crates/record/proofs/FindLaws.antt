-- Laws of finding a ladder in its record. Assumes nothing.
use mathlib.Core.Path.{◌≡◌, refl, sym, ap, subst, ◌∙◌}
use mathlib.Core.Logic.{inl, inr}
use mathlib.Core.Bool.{Bool, true, false}
use mathlib.Core.List.{List}
use Prim.Native.Nat.{ℕ, zero, suc, ◌+◌, ◌≤◌}
use native.Mathlib.Nat.{zero-add, add-zero, one-mul}
use native.Mathlib.Omega.{arith}
use lib.Dec.{eqb}
use lib.ListN.{length}
use Rattle.std.proofs.Common.{Result}
use Rattle.std.specs.Result.{IsErrAnd}
use Rattle.std.proofs.lemmas.Result.{err_from_is_err_and}
use Rattle.area.specs.Entries.{column}
use Rattle.area.proofs.Laws.{column_zero, column_suc}
use Rattle.grid.specs.Rows.{rising}
use Rattle.contract.specs.Res.{Res, refused, ok, bind}
use Rattle.contract.specs.Contract.{Contract, number_of}
use Rattle.contract.specs.Field.{Head, head_at}
use Rattle.contract.specs.Parse.{parse, body_at, reading}
use Rattle.contract.specs.Segments.{Sums, from, cost_value, segment, segments, segment_count, segment_contract, segment_body}
use Rattle.contract.specs.Serialize.{form_bits}
use Rattle.contract.specs.Table.{table_at, table_contract, table_end, table_body, units_of, cells_of}
use Rattle.contract.specs.Valid.{sum}
use Rattle.contract.specs.declared.Form.{Form}
use Rattle.contract.specs.declared.Refusal.{Refusal}
use Rattle.contract.proofs.FromHeader.{most_entries, reading_all}
use Rattle.contract.proofs.ParsedValid.ResLaws.{never, refused_inv, ok_inv, bind_inv, test_inv, Gives, passed}
use Rattle.contract.proofs.ParsedValid.FieldLaws.{amount_gives}
use Rattle.record.specs.Find.{Finds, LadderFound, sought_at, sought, HeadFound, OtherFound}
use Rattle.record.specs.View.Head.{LadderHead}
use Rattle.record.specs.View.Segments.{Found as Segments, found, ToEnd}
use Rattle.record.specs.declared.Found.{Found}
use Rattle.record.proofs.AnswerLaws.{parse_form}
use Rattle.record.proofs.LadderLaws.{unit}
use Rattle.record.proofs.SegmentLaws.{body_found}

-- ---- the totals

-- a unit that was read lifts the totals by its cost and value
unit_gives : (s : List ℕ) (c : Sums) → Gives (segment false s c) (Unit {0}) (unit s c)
unfolding segment cost_value
unit_gives s c d e =
    let (_, e₁) = passed (amount_gives s 1 c.cost c.at) _ e in
    let (_, e₂) = passed (amount_gives s 1 c.value (c.at + 4)) _ e₁ in
    let end : c.at + 4 + 4 ≡ c.at + 8 = omega arith in
    (tt, rw (← end) (simp one-mul at (sym (ok_inv e₂))))

-- the totals d after n units are those before with the sums of their costs and values
record Added (s : List ℕ) (n : ℕ) (c d : Sums) : Type 0 where
  cost : d.cost ≡ c.cost + sum (column 4 s c.at 8 n)
  value : d.value ≡ c.value + sum (column 4 s (c.at + 4) 8 n)

units_add : (s : List ℕ) (n : ℕ) (c d : Sums) → segments false s n c ≡ ok d → Added s n c d
unfolding segments sum
units_add s zero c d e = rw (← ok_inv e) record { cost = rw column_zero (omega arith); value = rw column_zero (omega arith) }
units_add s (suc n) c d e =
    let (_, e₁) = passed (unit_gives s c) _ e in
    let rest : Added s n (unit s c) d = units_add s n (unit s c) d e₁ in
    let next : c.at + 8 + 4 ≡ c.at + 4 + 8 = omega arith in
    let value = rw next at rest.value in
    record { cost = rw column_suc (omega (arith, rest.cost)); value = rw column_suc (omega (arith, value)) }

-- the totals of the segments found are the sums of their costs and values
record Summed (s : List ℕ) (r : Segments) : Type 0 where
  cost : r.cost ≡ sum (column 4 s r.first 8 r.count)
  value : r.value ≡ sum (column 4 s (r.first + 4) 8 r.count)

found_summed : (s : List ℕ) (i : ℕ) (r : Segments) → found false s i ≡ ok r → Summed s r
unfolding found
found_summed s i r e =
    let (n, _, e₁) = bind_inv (segment_count false s i) _ e in
    let (c, ec, e₂) = bind_inv (segments false s n.value (from n.next)) _ e₁ in
    let (_, e₃) = test_inv (eqb c.at (length s)) _ _ e₂ in
    let a : Added s n.value (from n.next) c = units_add s n.value (from n.next) c ec in
    subst (Summed s) (ok_inv e₃) record { cost = a.cost ∙ zero-add _; value = a.value ∙ zero-add _ }

-- ---- a ladder

module _ {s : List ℕ} {h : Head} (g : LadderHead s h) where
  -- the record says the contract of the segments found
  body : parse s ≡ bind (found false s h.next) (λ r. ok (segment_contract false s h r.count r.first))
  body = parse_form s h Form.Ladder g.said g.form_is ∙ body_found false s h

  pub ladder_refused : {n : ℕ} → found false s h.next ≡ refused n → sought s ≡ refused n
  unfolding sought
  ladder_refused e = rw (g.said, g.form_is, body_found, e)

  pub ladder_found : {r : Segments} → found false s h.next ≡ ok r → ToEnd false s r
      → LadderFound s (record { price = h.price; supplier = h.supplier; buyer = h.buyer; first = r.first; count = r.count; cost = r.cost; value = r.value })
  unfolding segment_contract
  ladder_found {r} e t =
      let sums : Summed s r = found_summed s h.next r e in
      record {
        says = body ∙ rw (e, g.form_is, add-zero);
        ends = t.ends;
        few = t.few;
        cost_is = sums.cost;
        value_is = sums.value;
      }

-- ---- another form

-- a contract has the form of its head
segments_form : (p : Bool) (s : List ℕ) (h : Head) (k : Contract) → segment_body p s h ≡ ok k → k.form ≡ h.form
unfolding segment_contract
segments_form p s h k e =
    let (_, _, e₁) = bind_inv (found p s h.next) _ (sym (body_found p s h) ∙ e) in
    ap (λ (c : Contract). c.form) (sym (ok_inv e₁))

table_form : (s : List ℕ) (h : Head) (k : Contract) → table_body s h ≡ ok k → k.form ≡ h.form
unfolding table_body table_end table_contract
table_form s h k e =
    let (t, _, e₁) = bind_inv (table_at s h.next) _ e in
    let (_, e₂) = test_inv (eqb t.values.end (length s)) _ _ e₁ in
    let (_, e₃) = test_inv (rising (units_of s t) (cells_of s t t.costs) t.rows) _ _ e₂ in
    let (_, e₄) = test_inv (rising (units_of s t) (cells_of s t t.values) t.rows) _ _ e₃ in
    ap (λ (c : Contract). c.form) (sym (ok_inv e₄))

body_form : (f : Form) (s : List ℕ) (h : Head) (k : Contract) → body_at f s h ≡ ok k → k.form ≡ h.form
body_form Form.Ladder s h k e = segments_form false s h k e
body_form Form.UnitPrices s h k e = segments_form true s h k e
body_form Form.Table s h k e = table_form s h k e

-- finding hands on the head that was read
sought_head : (f : Form) (s : List ℕ) (h : Head) {g : Head} → sought_at f s h ≡ ok g → h ≡ g
sought_head Form.Ladder s h e = let (_, _, e₁) = bind_inv (segment_body false s h) _ e in ok_inv e₁
sought_head Form.UnitPrices s h e = ok_inv e
sought_head Form.Table s h e = ok_inv e

-- the contract of a record has the form that its head names
pub found_form : (f : Form) (s : List ℕ) → HeadFound f s → (k : Contract) → parse s ≡ ok k → k.form ≡ f
unfolding sought
found_form f s o k p =
    let (h, eh, e) = bind_inv (head_at s) _ o.says in
    let read : head_at s ≡ ok o.head = eh ∙ ap ok (sought_head h.form s h e) in
    body_form o.head.form s o.head k (sym (parse_form s o.head o.head.form read refl) ∙ p) ∙ o.form_is

-- areas with room for a form are never too short for its records
pub found_whole : (f : Form) (s : List ℕ) → HeadFound f s → (n : ℕ) → most_entries f ≤ n → reading s n n ≡ parse s
found_whole f s o n room = reading_all s n (λ k p. rw (found_form f s o k p) room)

-- a head of another form is all that finding reads
pub head_found : (f : Form) (s : List ℕ) (h : Head) → head_at s ≡ ok h → h.form ≡ f → (form_bits f ≡ 1 → ⊥) → HeadFound f s
unfolding sought
head_found f s h e q other = record { head = h; says = rw e (ap (λ (g : Form). sought_at g s h) q ∙ go f other); form_is = q }
  where
    go : (f : Form) → (form_bits f ≡ 1 → ⊥) → sought_at f s h ≡ ok h
    go Form.Ladder n = absurd (n refl)
    go Form.UnitPrices n = refl
    go Form.Table n = refl

-- ---- no ladder

pub other_none : (s : List ℕ) → OtherFound s → (k : Contract) → parse s ≡ ok k → k.form ≡ Form.Ladder → ⊥
other_none s (inl o) k p l =
    let e : ◌≡◌ {A = ℕ} 2 1 = ap form_bits (sym (found_form Form.UnitPrices s o k p) ∙ l) in
    omega arith
other_none s (inr o) k p l =
    let e : ◌≡◌ {A = ℕ} 4 1 = ap form_bits (sym (found_form Form.Table s o k p) ∙ l) in
    omega arith

pub other_whole : (s : List ℕ) → OtherFound s → reading s 128 128 ≡ parse s
other_whole s (inl o) = found_whole Form.UnitPrices s o 128 (omega arith)
other_whole s (inr o) = found_whole Form.Table s o 128 (omega arith)

-- ---- refusals

-- a head that is refused is all that finding reads
pub head_refused : (s : List ℕ) {n : ℕ} → head_at s ≡ refused n → sought s ≡ refused n
unfolding sought
head_refused s e = rw e

-- what finding refuses, the record's reader refuses
pub sought_refused : (s : List ℕ) {n : ℕ} → sought s ≡ refused n → parse s ≡ refused n
unfolding sought parse
sought_refused s {n} e = go (head_at s) e
  where
    ladder : (h : Head) (r : Res Contract) → bind r (λ k. ok h) ≡ refused n → r ≡ refused n
    ladder h (refused m) e = ap refused (refused_inv e)
    ladder h (ok k) e = never (sym e)

    at : (f : Form) (h : Head) → sought_at f s h ≡ refused n → body_at f s h ≡ refused n
    at Form.Ladder h e = ladder h (segment_body false s h) e
    at Form.UnitPrices h e = never (sym e)
    at Form.Table h e = never (sym e)

    go : (r : Res Head) → bind r (λ h. sought_at h.form s h) ≡ refused n → bind r (λ h. body_at h.form s h) ≡ refused n
    go (refused m) e = ap refused (refused_inv e)
    go (ok h) e = at h.form h e

-- at the exit of a `?`
pub finds_on : (s : List ℕ) (r : Result Found Refusal) (e : Refusal) → sought s ≡ refused (number_of e) → IsErrAnd r (λ d. d ≡ e) → Finds s r
finds_on s r e h q = let p = err_from_is_err_and r q in rw (p.1, p.2) h
