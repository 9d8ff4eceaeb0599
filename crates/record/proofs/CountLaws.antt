-- The counts of a header: what they say where they are in range, and the refusals of what is too short for them. Assumes nothing.
use mathlib.Core.Path.{◌≡◌, refl}
use mathlib.Core.Bool.{Bool, true, false, and-false, and-eq-true_iff}
use mathlib.Core.List.{List}
use Prim.Native.Nat.{ℕ, ◌≤◌, ◌<◌}
use native.Mathlib.Omega.{arith}
use borrow.Author.Tests.{lt-ltb, le-leb, le-ltb, lt-leb, leb-true}
use Rattle.std.proofs.Common.{Result, Some, None}
use lib.ListN.{length, take}
use lib.Seq.{length-take-le}
use Rattle.contract.specs.Res.{refused}
use Rattle.contract.specs.Contract.{units_in, entries_in}
use Rattle.contract.specs.Valid.{in_range}
use Rattle.contract.specs.Serialize.{record_of, writing}
use Rattle.contract.specs.declared.Form.{Form}
use Rattle.contract.specs.declared.Form.TheVariants.{Ladder, UnitPrices, Table}
use Rattle.contract.specs.declared.Header.{Header}
use Rattle.record.specs.View.Write.{counted, items_in, contract_with, Replies}
use Rattle.contract.specs.declared.Refusal.{Refusal}

-- ---- how many there are

-- the largest count
abbrev pub most_of : Form → ℕ
most_of Ladder = 1000
most_of UnitPrices = 8
most_of Table = 4

pub range_over : (f : Form) (n : ℕ) (us : List ℕ) → most_of f < n → in_range f n us ≡ false
unfolding in_range
range_over Ladder n us l = simp (lt-leb n 1000 l, and-false)
range_over UnitPrices n us l = simp (lt-leb n 8 l, and-false)
range_over Table n us l = simp (lt-leb n 4 l, and-false)

pub ladder_none : (n : ℕ) (us : List ℕ) → n < 1 → in_range Ladder n us ≡ false
unfolding in_range
ladder_none n us l = simp (le-ltb 0 n (omega arith))

pub ladder_some : (n : ℕ) (us : List ℕ) → 1 ≤ n → n ≤ 1000 → in_range Ladder n us ≡ true
unfolding in_range
ladder_some n us a b = simp (lt-ltb 0 n a, le-leb n 1000 b)

-- ---- the units that are counted

items_are : (f : Form) (n : ℕ) (us : List ℕ) → take (items_in f n) us ≡ units_in f n us
items_are Ladder n us = refl
items_are UnitPrices n us = refl
items_are Table n us = refl

few_items : (f : Form) (n : ℕ) (us : List ℕ) → in_range f n us ≡ true → items_in f n ≤ 8
unfolding in_range
few_items Ladder n us r = omega arith
few_items UnitPrices n us r = leb-true n 8 (simp and-eq-true_iff at r).0.0.1
few_items Table n us r = omega (arith, leb-true n 4 (simp and-eq-true_iff at r).0.0.1)

pub items_length : (f : Form) (n : ℕ) (us : List ℕ) → length us ≡ 8 → in_range f n (units_in f n us) ≡ true → length (units_in f n us) ≡ items_in f n
items_length f n us e r = rw (← items_are f n us) (length-take-le (items_in f n) us (omega (arith, few_items f n (units_in f n us) r)))

-- ---- the tests of the counts and of the areas

-- a header whose counts are in range, with n costs and n values
pub record InRange (h : Header) (n : ℕ) : Type 0 where
  pub range : in_range h.form h.count (units_in h.form h.count h.units) ≡ true
  pub entries : n ≡ entries_in h.form h.count h.units

pub counted_some : (h : Header) {n : ℕ} → counted h ≡ Some n → InRange h n
counted_some h {n} e = go (in_range h.form h.count (units_in h.form h.count h.units)) refl
  where
    go : (t : Bool) → in_range h.form h.count (units_in h.form h.count h.units) ≡ t → InRange h n
    go true r = let same : Some (entries_in h.form h.count h.units) ≡ Some n = rw r at e in record { range = r; entries = cc }
    go false r = let none : None ≡ Some n = rw r at e in cc

pub counted_none : (h : Header) (cs vs : List ℕ) (room : ℕ) → counted h ≡ None → writing h cs vs room ≡ refused 5
unfolding writing
counted_none h cs vs room e = go (in_range h.form h.count (units_in h.form h.count h.units)) refl
  where
    go : (t : Bool) → in_range h.form h.count (units_in h.form h.count h.units) ≡ t → writing h cs vs room ≡ refused 5
    go true r = let some : Some (entries_in h.form h.count h.units) ≡ None = rw r at e in cc
    go false r = rw r

pub items_few : {h : Header} {n : ℕ} → InRange h n → length h.units ≡ 8 → items_in h.form h.count ≤ length h.units
items_few {h} r e = omega (arith, few_items h.form h.count (units_in h.form h.count h.units) r.range)

module _ {h : Header} {n : ℕ} (r : InRange h n) (cs vs : List ℕ) where
  pub costs_short : (room : ℕ) → length cs < n → writing h cs vs room ≡ refused 8
  unfolding writing
  costs_short room l = rw (r.range, ← r.entries, lt-leb n (length cs) l)

  pub values_short : (room : ℕ) → n ≤ length cs → length vs < n → writing h cs vs room ≡ refused 8
  unfolding writing
  values_short room c l = rw (r.range, ← r.entries, le-leb n (length cs) c, lt-leb n (length vs) l)

  module _ (c : n ≤ length cs) (v : n ≤ length vs) where
    pub writes_cut : {out out' : List ℕ} {w : Result ℕ Refusal}
        → Replies (record_of (contract_with h (take (items_in h.form h.count) h.units) (take n cs) (take n vs)) (length out)) out w out'
        → Replies (writing h cs vs (length out)) out w out'
    unfolding writing
    writes_cut p = rw (r.range, ← r.entries, le-leb n (length cs) c, le-leb n (length vs) v) (rw (items_are h.form h.count h.units) at p)
