-- Laws of a table's fields. Assumes nothing.
use native.Mathlib.Nat.{zero-add}
use mathlib.Core.Path.{◌≡◌, refl, sym, ◌∙◌}
use mathlib.Core.Bool.{Bool, true, false, cond}
use mathlib.Core.List.{List, ◌++◌}
use Prim.Native.Nat.{ℕ, zero, suc, ◌+◌, ◌-◌, ◌≤◌, ◌<◌}
use native.Mathlib.Numerals.{add-one}
use native.Mathlib.Decide.{dec_lt}
use native.Mathlib.Omega.{arith}
use lib.Dec.{leb}
use Rattle.std.proofs.Common.{Option, Some, None, Ok}
use Rattle.std.specs.Option.{ok_or}
use Rattle.contract.specs.declared.Refusal.{Refusal}
use lib.ListN.{length, get_or, take, drop, replicate, length-take, length-drop, get_or-eq_default, set}
use lib.Seq.{drop-cons, take_at, get_or-take, get_or-drop, length-take-le, paste-suc}
use borrow.Author.Tests.{leb-true}
use Rattle.contract.specs.Res.{refused, ok}
use Rattle.contract.specs.Field.{At, ranged}
use Rattle.area.specs.Entries.{Bytes, num, column}
use Rattle.area.proofs.Laws.{column_length, column_zero, column_suc}
use Rattle.grid.specs.Rows.{rows_of}
use Rattle.grid.specs.Map.{map_size, bits_from, bit_count, standing}
use Rattle.grid.proofs.MapLaws.{count_rows}
use Rattle.contract.specs.Table.{units_at, part}
use Rattle.record.specs.View.Table.{Items, Counted}
use Rattle.record.proofs.Laws.{one_more, none_left, some_of}

-- one units field more, one that is refused, and none left
pub units_next : (s : List ℕ) (n k i : ℕ) (a : At) → k < n → ranged 1 255 s i ≡ ok a → units_at s (n - k) i ≡ units_at s (n - (k + 1)) a.next
unfolding units_at
units_next s n k i a h e = rw (one_more n k h) (simp e)

pub units_stop : (s : List ℕ) (n k i : ℕ) {r : ℕ} → k < n → ranged 1 255 s i ≡ refused r → units_at s (n - k) i ≡ refused r
unfolding units_at
units_stop s n k i h e = rw (one_more n k h) (simp e)

pub units_end : (s : List ℕ) (n k i : ℕ) → n ≤ k → units_at s (n - k) i ≡ ok i
unfolding units_at
units_end s n k i h = rw none_left

-- what is left of zeros
pub drop_zeros : (n k : ℕ) → drop {A = ℕ} k (replicate n 0) ≡ replicate (n - k) 0
drop_zeros n zero = let e : n - 0 ≡ n = omega arith in rw e
drop_zeros zero (suc k) = let e : 0 - suc k ≡ 0 = omega arith in rw e
drop_zeros (suc n) (suc k) = let e : suc n - suc k ≡ n - k = omega arith in rw e (drop_zeros n k)

-- a copy of one element more
pub copy_more : (src dst : List ℕ) (k : ℕ) → k < length src → k < length dst → set (take k src ++ drop k dst) k (get_or src k 0) ≡ take (k + 1) src ++ drop (k + 1) dst
copy_more src dst k h l = rw add-one (simp zero-add at (paste-suc dst 0 src k 0 (rw zero-add l) h))

-- the units fields are the bytes themselves
pub column_bytes : (s : List ℕ) (i n : ℕ) → i + n ≤ length s → column 1 s i 1 n ≡ take n (drop i s)
unfolding num
column_bytes s i zero h = column_zero 1 s i 1
column_bytes s i (suc n) h =
    let e : num 1 s i ≡ get_or s i 0 = omega arith in
    column_suc 1 s i 1 n ∙ rw (drop-cons s i 0 (omega arith), e, column_bytes s (i + 1) n (omega arith), add-one)

-- the counted front of the units of a table's items, which are followed by zeros
pub units_part : (s : List ℕ) (i e : ℕ) → i ≤ e → e ≤ length s → take (e - i) (column 1 s i 1 (e - i) ++ replicate (8 - (e - i)) 0) ≡ part i e s
units_part s i e h l = take_at (column 1 s i 1 (e - i)) _ (e - i) (column_length 1 s i 1 (e - i)) ∙ column_bytes s i (e - i) (omega arith)

-- what the count of rows says: none for more than 128
rows_none : (us : List ℕ) {r : Option ℕ} → r ≡ cond (leb (rows_of us) 128) (Some (rows_of us)) None → r ≡ None → leb (rows_of us) 128 ≡ false
rows_none us e z = go (leb (rows_of us) 128) refl
  where
    go : (b : Bool) → leb (rows_of us) 128 ≡ b → b ≡ false
    go false q = refl
    go true q = let f : Some (rows_of us) ≡ None = sym (rw q at e) ∙ z in cc

-- what a count of rows says
pub record RowCount (us : List ℕ) (n : ℕ) : Type 0 where
  pub test : leb (rows_of us) 128 ≡ true
  pub rows : n ≡ rows_of us
  pub few : n ≤ 128

rows_some : (us : List ℕ) {r : Option ℕ} {n : ℕ} → r ≡ cond (leb (rows_of us) 128) (Some (rows_of us)) None → r ≡ Some n → RowCount us n
rows_some us {n = n} e z = go (leb (rows_of us) 128) refl
  where
    go : (b : Bool) → leb (rows_of us) 128 ≡ b → RowCount us n
    go true q =
        let some : Some n ≡ Some (rows_of us) = sym z ∙ rw q at e in
        let f : n ≡ rows_of us = cc in
        record { test = q; rows = f; few = omega (arith, leb-true (rows_of us) 128 q) }
    go false q = let none : Some n ≡ None = sym z ∙ rw q at e in cc

-- the units that were read have the counted front
pub units_front : (s : List ℕ) (i d n : ℕ) {us : List ℕ} → us ≡ column 1 s i d n ++ replicate (8 - n) 0 → n ≡ length (take n us)
units_front s i d n e = rw (e, take_at (column 1 s i d n) _ n (column_length 1 s i d n)) (sym (column_length 1 s i d n))

-- the units that were read are those of the units fields
pub units_read : {s us : List ℕ} {i e : ℕ} → Items s i e → us ≡ column 1 s i 1 (e - i) ++ replicate (8 - (e - i)) 0 → take (e - i) us ≡ part i e s
units_read {s} {us} {i} {e} p q = rw q (units_part s i e p.begin p.within)

-- the rows counted are those of the units fields
module _ {s us : List ℕ} {i e : ℕ} (p : Items s i e) (q : us ≡ column 1 s i 1 (e - i) ++ replicate (8 - (e - i)) 0) (r : Option ℕ)
    (h : r ≡ cond (leb (rows_of (take (e - i) us)) 128) (Some (rows_of (take (e - i) us))) None) where
  counted : r ≡ cond (leb (rows_of (part i e s)) 128) (Some (rows_of (part i e s))) None
  counted = rw (units_read p q) at h

  pub rows_read : (d : Refusal) {n : ℕ} → Ok n ≡ ok_or r d → RowCount (part i e s) n
  rows_read d g = rows_some (part i e s) counted (some_of r d g)

  pub rows_over : r ≡ None → leb (rows_of (part i e s)) 128 ≡ false
  rows_over z = rows_none (part i e s) counted z

-- and the items are as grid functions ask for them
pub units_counted : {s us : List ℕ} {i e n : ℕ} → Items s i e → us ≡ column 1 s i 1 (e - i) ++ replicate (8 - (e - i)) 0
    → RowCount (part i e s) n → Counted (take (e - i) us) n
units_counted {s} {us} {i} {e} p q r =
    let items : length (part i e s) ≤ e - i = omega (arith, length-take (e - i) (drop i s)) in
    rw (units_read p q) (record { small = record { items = omega (arith, p.few); rows = omega (arith, r.rows, r.few) }; rows_are = r.rows })

part_bytes : (s : List ℕ) (m n : ℕ) → Bytes s → Bytes (take n (drop m s))
part_bytes s m n b k = go (dec_lt k n)
  where
    go : Dec (k < n) → get_or (take n (drop m s)) k 0 < 256
    go (yes l) = rw (get_or-take n (drop m s) k 0 l, get_or-drop m s k 0) (b (m + k))
    go (no l) = rw (get_or-eq_default (take n (drop m s)) 0 {n = k} (omega (arith, length-take n (drop m s)))) (omega arith)

-- with no bit beyond the last row, the bits counted are those of the rows
pub map_counted : (s : List ℕ) (m rows : ℕ) → Bytes s → m + map_size rows ≤ length s → bits_from (part m (m + map_size rows) s) rows ≡ 0
    → bit_count (part m (m + map_size rows) s) ≡ standing (part m (m + map_size rows) s) rows
map_counted s m rows b h e =
    let size : m + map_size rows - m ≡ map_size rows = omega arith in
    count_rows (part m (m + map_size rows) s) rows (part_bytes s m (m + map_size rows - m) b)
    (length-take-le (m + map_size rows - m) (drop m s) (simp length-drop (omega arith)) ∙ size) e
