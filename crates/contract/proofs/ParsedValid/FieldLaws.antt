-- What the fields that were read say. Assumes nothing.
use mathlib.Core.Path.{◌≡◌, sym}
use mathlib.Core.Bool.{Bool, true, false}
use mathlib.Core.List.{List}
use Prim.Native.Nat.{ℕ, ◌+◌, ◌*◌, ◌/◌, ◌%◌, ◌≤◌}
use lib.Dec.{leb, ltb, eqb}
use lib.ListN.{length}
use borrow.Author.Tests.{leb-true}
use Rattle.area.specs.Entries.{num}
use Rattle.contract.specs.Res.{ok}
use Rattle.contract.specs.Contract.{limit}
use Rattle.contract.specs.Field.{At, field, ranged, money, amount, form_of, Head, amounts, head_at}
use Rattle.contract.specs.declared.Form.{Form}
use Rattle.contract.proofs.ParsedValid.ResLaws.{ok_inv, bind_inv, test_inv, Gives, passed}

-- the number of w bytes at index i, and the index after it
abbrev pub field_at : ℕ → List ℕ → ℕ → At
field_at w s i = record { value = num w s i; next = i + w }

field_gives : (w : ℕ) (s : List ℕ) (i : ℕ) → Gives (field w s i) (i + w ≤ length s) (field_at w s i)
unfolding field
field_gives w s i a e =
    let (room, q) = test_inv (leb (i + w) (length s)) _ _ e in
    (leb-true _ _ room, sym (ok_inv q))

-- a count or units, from 1 to the most, that lie within the record
pub record Ranged (w most : ℕ) (s : List ℕ) (i : ℕ) : Type 0 where
  pub room : i + w ≤ length s
  pub low : ltb 0 (num w s i) ≡ true
  pub high : leb (num w s i) most ≡ true

pub ranged_gives : (w most : ℕ) (s : List ℕ) (i : ℕ) → Gives (ranged w most s i) (Ranged w most s i) (field_at w s i)
unfolding ranged
ranged_gives w most s i a e =
    let (room, e₁) = passed (field_gives w s i) _ e in
    let (low, e₂) = test_inv (ltb 0 (num w s i)) _ _ e₁ in
    let (high, e₃) = test_inv (leb (num w s i) most) _ _ e₂ in
    (record { room = room; low = low; high = high }, sym (ok_inv e₃))

-- an amount, and the total t with n units of it, are within the limit
pub record Lifted (s : List ℕ) (n t i : ℕ) : Type 0 where
  pub each : num 4 s i ≤ limit
  pub together : t + n * num 4 s i ≤ limit

pub amount_gives : (s : List ℕ) (n t i : ℕ) → Gives (amount s n t i) (Lifted s n t i) (record { value = t + n * num 4 s i; next = i + 4 })
unfolding amount
amount_gives s n t i a e =
    let (_, e₁) = passed (field_gives 4 s i) _ e in
    let (each, e₂) = test_inv (leb (num 4 s i) limit) _ _ e₁ in
    let (together, e₃) = test_inv (leb (t + n * num 4 s i) limit) _ _ e₂ in
    (record { each = leb-true _ _ each; together = leb-true _ _ together }, sym (ok_inv e₃))

money_within : (p : Bool) (s : List ℕ) (i : ℕ) (a : At) → money p s i ≡ ok a → leb a.value limit ≡ true
unfolding money
money_within false s i a e = rw (← ok_inv e)
money_within true s i a e =
    let (_, e₁) = passed (field_gives 4 s i) _ e in
    let (_, e₂) = test_inv (ltb 0 (num 4 s i)) _ _ e₁ in
    let (within, e₃) = test_inv (leb (num 4 s i) limit) _ _ e₂ in
    rw (← ok_inv e₃) within

-- P, cs and cd are within the limit
pub record HeadWithin (price supplier buyer : ℕ) : Type 0 where
  pub price_within : leb price limit ≡ true
  pub supplier_within : leb supplier limit ≡ true
  pub buyer_within : leb buyer limit ≡ true

amounts_within : (s : List ℕ) (m : ℕ) (f : Form) (i : ℕ) (h : Head) → amounts s m f i ≡ ok h → HeadWithin h.price h.supplier h.buyer
unfolding amounts
amounts_within s m f i h e =
    let (p, ep, e₁) = bind_inv (money (eqb (m % 2) 1) s i) _ e in
    let (a, ea, e₂) = bind_inv (money (eqb (m / 2 % 2) 1) s p.next) _ e₁ in
    let (b, eb, e₃) = bind_inv (money (eqb (m / 4 % 2) 1) s a.next) _ e₂ in
    rw (← ok_inv e₃)
    record {
      price_within = money_within _ s i p ep;
      supplier_within = money_within _ s p.next a ea;
      buyer_within = money_within _ s a.next b eb;
    }

pub head_within : (s : List ℕ) (h : Head) → head_at s ≡ ok h → HeadWithin h.price h.supplier h.buyer
unfolding head_at
head_within s h e =
    let (_, e₁) = passed (field_gives 2 s 0) _ e in
    let (f, _, e₂) = bind_inv (form_of (num 2 s 0 / 8)) _ e₁ in
    amounts_within s (num 2 s 0) f 2 h e₂
