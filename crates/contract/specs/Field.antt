-- The fields of a record, each with its refusals: "in one field 1, then 3 or 5, then 4".
use Rattle.std.specs.Prelude.{Bool, true, false, cond, List, ℕ, ◌+◌, ◌*◌, ◌/◌, ◌%◌, leb, ltb, eqb, length}
use Rattle.area.specs.Entries.{num}
use Rattle.contract.specs.Res.{Res, refused, ok, bind, test}
use Rattle.contract.specs.Contract.{limit}
use Rattle.contract.specs.declared.Form.{Form}
use Rattle.contract.specs.declared.Form.TheVariants.{Ladder, UnitPrices, Table}

-- a number that was read, and the index after it
pub record At : Type 0 where
  pub value : ℕ
  pub next : ℕ

-- a field of w bytes at index i; 1: the record ends inside it
unfoldable pub field : ℕ → List ℕ → ℕ → Res At
field w s i = test 1 (leb (i + w) (length s)) (ok (record { value = num w s i; next = i + w }))

-- a count or units, from 1 to the most; 5: out of range
unfoldable pub ranged : ℕ → ℕ → List ℕ → ℕ → Res At
ranged w most s i = bind (field w s i) (λ a. test 5 (ltb 0 a.value) (test 5 (leb a.value most) (ok a)))

-- P, cs or cd; its bit clear means 0; 3: a zero where the bit stands; 4: over the limit
unfoldable pub money : Bool → List ℕ → ℕ → Res At
money false s i = ok (record { value = 0; next = i })
money true s i = bind (field 4 s i) (λ a. test 3 (ltb 0 a.value) (test 4 (leb a.value limit) (ok a)))

-- an amount for each of n units, added to a running total t, which is tested at the field that lifts it
unfoldable pub amount : List ℕ → ℕ → ℕ → ℕ → Res At
amount s n t i =
    bind (field 4 s i) (λ a.
    test 4 (leb a.value limit) (
    test 4 (leb (t + n * a.value) limit) (
    ok (record { value = t + n * a.value; next = a.next }))))

-- the form that the map's bits from 3 on name: exactly one of bits 3, 4, 5 stands and bits 6 to 15 are clear; 2: any other
unfoldable pub form_of : ℕ → Res Form
form_of f = cond (eqb f 1) (ok Ladder) (cond (eqb f 2) (ok UnitPrices) (cond (eqb f 4) (ok Table) (refused 2)))

-- the form and the three amounts
pub record Head : Type 0 where
  pub form : Form
  pub price : ℕ
  pub supplier : ℕ
  pub buyer : ℕ
  pub next : ℕ

-- the amounts that bits 0, 1 and 2 of a map m announce
unfoldable pub amounts : List ℕ → ℕ → Form → ℕ → Res Head
amounts s m f i =
    bind (money (eqb (m % 2) 1) s i) (λ p.
    bind (money (eqb (m / 2 % 2) 1) s p.next) (λ a.
    bind (money (eqb (m / 4 % 2) 1) s a.next) (λ b.
    ok (record { form = f; price = p.value; supplier = a.value; buyer = b.value; next = b.next }))))

-- the two-byte map, the refusal 2 that follows it, and the amounts
unfoldable pub head_at : List ℕ → Res Head
head_at s = bind (field 2 s 0) (λ m. bind (form_of (m.value / 8)) (λ f. amounts s m.value f m.next))
