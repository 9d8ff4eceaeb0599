-- What is written of a header and two areas reads back. Assumes nothing.
use mathlib.Core.Path.{◌≡◌, refl, ap}
use mathlib.Core.Bool.{Bool, true, false}
use mathlib.Core.List.{List}
use Prim.Native.Nat.{ℕ, ◌≤◌}
use native.Mathlib.Omega.{arith}
use borrow.Author.Tests.{leb-true}
use lib.Dec.{leb}
use Rattle.std.proofs.Common.{Result}
use lib.ListN.{length, take}
use lib.Seq.{length-take-le, take-take}
use Rattle.grid.specs.Rows.{rows_of}
use Rattle.contract.specs.Res.{ok, test}
use Rattle.contract.specs.Contract.{Contract, count_of, units_in, entries_in, contract_of}
use Rattle.contract.specs.Valid.{in_range, within_limit, rises, Valid}
use Rattle.contract.specs.Serialize.{serialize, record_of, writing}
use Rattle.contract.specs.declared.Form.{Form}
use Rattle.contract.specs.declared.Form.TheVariants.{Ladder, UnitPrices, Table}
use Rattle.contract.specs.declared.Header.{Header}
use Rattle.contract.proofs.RoundTrip.{round_trip}
use Rattle.record.specs.Promise.{ReadBack, Writes}
use Rattle.record.specs.View.Write.{Replies}
use Rattle.contract.specs.declared.Refusal.{Refusal}
use Rattle.record.proofs.CountLaws.{items_length}

-- a form's own count, of the units and costs that a header counts
count_is : (f : Form) (n : ℕ) (us cs : List ℕ) → length us ≡ 8 → in_range f n (units_in f n us) ≡ true → entries_in f n us ≤ length cs
    → count_of f (units_in f n us) (take (entries_in f n us) cs) ≡ n
count_is Ladder n us cs e r h = length-take-le n cs h
count_is UnitPrices n us cs e r h = items_length UnitPrices n us e r
count_is Table n us cs e r h = items_length Table n us e r

units_again : (f : Form) (n : ℕ) (us : List ℕ) → units_in f n (units_in f n us) ≡ units_in f n us
units_again Ladder n us = refl
units_again UnitPrices n us = take-take n n us (omega arith)
units_again Table n us = take-take n n us (omega arith)

entries_again : (f : Form) (n : ℕ) (us : List ℕ) → entries_in f n (units_in f n us) ≡ entries_in f n us
entries_again Ladder n us = refl
entries_again UnitPrices n us = refl
entries_again Table n us = ap rows_of (take-take n n us (omega arith))

-- only what passes every test has a record
back_tests : (k : Contract) (a b c d e f g : Bool) → (a ≡ true → b ≡ true → c ≡ true → d ≡ true → e ≡ true → f ≡ true → Valid k)
    → ReadBack (test 5 a (test 8 b (test 8 c (test 4 d (test 6 e (test 6 f (test 8 g (ok (serialize k))))))))) k
back_tests k false b c d e f g v = tt
back_tests k true false c d e f g v = tt
back_tests k true true false d e f g v = tt
back_tests k true true true false e f g v = tt
back_tests k true true true true false f g v = tt
back_tests k true true true true true false g v = tt
back_tests k true true true true true true false v = tt
back_tests k true true true true true true true v = round_trip k (v refl refl refl refl refl refl)

reads_back : (h : Header) (cs vs : List ℕ) (room : ℕ) → length h.units ≡ 8 → ReadBack (writing h cs vs room) (contract_of h cs vs)
unfolding writing record_of
reads_back h cs vs room e = back_tests k _ _ _ _ _ _ (leb (length (serialize k)) room) valid
  where
    k : Contract
    k = contract_of h cs vs

    n : ℕ
    n = entries_in h.form h.count h.units

    valid : in_range h.form h.count k.units ≡ true → leb n (length cs) ≡ true → leb n (length vs) ≡ true → within_limit k ≡ true
        → rises h.form k.units k.costs ≡ true → rises h.form k.units k.values ≡ true → Valid k
    valid range costs values within costs_rise values_rise =
        let count = count_is h.form h.count h.units cs e range (leb-true _ _ costs) in
        record {
          range = rw count range;
          units_counted = rw count (units_again h.form h.count h.units);
          costs_counted = rw (count, entries_again) (length-take-le n cs (leb-true _ _ costs));
          values_counted = rw (count, entries_again) (length-take-le n vs (leb-true _ _ values));
          within = within;
          costs_rise = costs_rise;
          values_rise = values_rise;
        }

-- the writer's promise, from the reply and the output area
pub promised : {h : Header} {cs vs out out' : List ℕ} {r : Result ℕ Refusal} → length h.units ≡ 8 → Replies (writing h cs vs (length out)) out r out' → Writes h cs vs out r out'
promised {h} {cs} {vs} {out} e p = record { answer = p.answer; bytes_after = p.bytes_after; read_back = reads_back h cs vs (length out) e }
