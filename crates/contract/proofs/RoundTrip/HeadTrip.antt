-- The head that was written is read back: the map and the three amounts. Assumes nothing.
use mathlib.Core.Path.{◌≡◌, refl}
use mathlib.Core.Bool.{Bool, true, false, cond, not}
use mathlib.Core.List.{[], ◌∷◌, flatten, append_assoc, append-nil}
use Prim.Native.Nat.{ℕ, ◌+◌, ◌*◌, ◌/◌, ◌%◌, ◌^◌, ◌≤◌, ◌<◌}
use native.Mathlib.Omega.{arith}
use lib.Dec.{eqb}
use Rattle.area.specs.Entries.{digits}
use Rattle.area.proofs.Laws.{digits_length}
use Rattle.contract.specs.Res.{ok}
use Rattle.contract.specs.Contract.{Contract, limit}
use Rattle.contract.specs.Field.{Head, form_of, amounts, head_at}
use Rattle.contract.specs.Serialize.{form_bits, map_of, money_bytes, serialize}
use Rattle.contract.specs.declared.Form.{Form}
use Rattle.contract.specs.declared.Form.TheVariants.{Ladder, UnitPrices, Table}
use Rattle.contract.proofs.RoundTrip.Rest.{Rest, start, past}
use Rattle.contract.proofs.Lengths.{body_from, body_of}
use Rattle.contract.proofs.RoundTrip.FieldTrip.{field_is, money_is}

-- a bit as 1, and as n
bit : (x : Bool) (n : ℕ) → (cond x 0 1 ≤ 1) × (cond x 0 n ≡ n * cond x 0 1)
bit true n = omega arith
bit false n = omega arith

-- what a map m of three bits and a form says
record Bits (m : ℕ) (x y z : Bool) (f : ℕ) : Type 0 where
  small : m < 256 ^ 2
  first : m % 2 ≡ cond x 0 1
  second : m / 2 % 2 ≡ cond y 0 1
  third : m / 4 % 2 ≡ cond z 0 1
  form : m / 8 ≡ f

bits : (x y z : Bool) (f : ℕ) → f ≤ 4 → Bits (cond x 0 1 + cond y 0 2 + cond z 0 4 + 8 * f) x y z f
bits x y z f l = omega (arith, bit x 1, bit y 2, bit z 4)

is_set : (x : Bool) {n : ℕ} → n ≡ cond x 0 1 → eqb n 1 ≡ not x
is_set true e = rw e
is_set false e = rw e

form_small : (f : Form) → form_bits f ≤ 4
form_small Ladder = omega arith
form_small UnitPrices = omega arith
form_small Table = omega arith

form_is : (f : Form) → form_of (form_bits f) ≡ ok f
unfolding form_of
form_is Ladder = refl
form_is UnitPrices = refl
form_is Table = refl

-- the head of a contract's record
abbrev pub head_of : Contract → Head
head_of k = record { form = k.form; price = k.price; supplier = k.supplier; buyer = k.buyer; next = body_from k }

module _ (k : Contract) where
  from_map : Rest (serialize k) 0 (digits 2 (map_of k) ∷ money_bytes k.price ∷ money_bytes k.supplier ∷ money_bytes k.buyer ∷ body_of k ∷ [])
  unfolding serialize flatten
  from_map = start (simp (append_assoc, append-nil))

  from_price : Rest (serialize k) 2 (money_bytes k.price ∷ money_bytes k.supplier ∷ money_bytes k.buyer ∷ body_of k ∷ [])
  from_price = past (digits_length 2 (map_of k)) from_map

  pub from_body : Rest (serialize k) (body_from k) (body_of k ∷ [])
  from_body = past refl (past refl (past refl from_price))

  pub head_is : k.price ≤ limit → k.supplier ≤ limit → k.buyer ≤ limit → head_at (serialize k) ≡ ok (head_of k)
  unfolding head_at amounts map_of
  head_is p a b =
      let x = eqb k.price 0 in
      let y = eqb k.supplier 0 in
      let z = eqb k.buyer 0 in
      let m = bits x y z (form_bits k.form) (form_small k.form) in
      let from_supplier = past refl from_price in
      simp (
        field_is 2 (map_of k) from_map m.small,
        m.form,
        form_is k.form,
        is_set x m.first,
        money_is k.price p from_price,
        is_set y m.second,
        money_is k.supplier a from_supplier,
        is_set z m.third,
        money_is k.buyer b (past refl from_supplier),
      )
