-- What the fields of a table that were read say: units and rows in range, cells within the limit. Assumes nothing.
use mathlib.Core.Path.{◌≡◌, refl, sym}
use mathlib.Core.Bool.{true}
use mathlib.Core.List.{List}
use Prim.Native.Nat.{ℕ, zero, suc, ◌+◌, ◌*◌, ◌≤◌, ◌<◌}
use native.Mathlib.Nat.{add-zero, add-sub_cancel_left}
use native.Mathlib.Numerals.{add-one}
use native.Mathlib.Omega.{arith}
use lib.Dec.{leb, ltb, eqb}
use lib.ListN.{length, get_or, take, drop, length-drop}
use lib.Seq.{drop-cons, length-take-le}
use Rattle.area.specs.Entries.{num, entries}
use Rattle.grid.specs.Rows.{rows_of}
use Rattle.grid.specs.Map.{map_size, bits_from, bit_count}
use Rattle.contract.specs.Res.{ok}
use Rattle.contract.specs.Table.{part, units_at, all_within, Grid, grid_at, Layout, grids_at, table_at, units_of}
use Rattle.contract.specs.Valid.{units_in_range, in_range}
use Rattle.contract.specs.declared.Form.TheVariants.{Table}
use Rattle.contract.proofs.ParsedValid.ResLaws.{ok_inv, bind_inv, test_inv, Gives, passed}
use Rattle.contract.proofs.ParsedValid.FieldLaws.{ranged_gives}

-- ---- units

-- the n units from index i on lie within the record, and each is in range
record UnitsRead (s : List ℕ) (n i : ℕ) : Type 0 where
  room : i + n ≤ length s
  range : units_in_range (take n (drop i s)) ≡ true

num_one : (s : List ℕ) (i : ℕ) → num 1 s i ≡ get_or s i 0
unfolding num
num_one s i = add-zero (get_or s i 0)

units_give : (s : List ℕ) (n i : ℕ) → i ≤ length s → Gives (units_at s n i) (UnitsRead s n i) (i + n)
unfolding units_at units_in_range
units_give s zero i h a e = (record { room = omega arith; range = refl }, rw add-zero (sym (ok_inv e)))
units_give s (suc n) i h a e =
    let (one, e₁) = passed (ranged_gives 1 255 s i) _ e in
    let (rest, q) = units_give s n (i + 1) one.room a e₁ in
    let inside : i < length s = omega (arith, one.room) in
    let next : i + 1 + n ≡ i + suc n = omega arith in
    let range : units_in_range (take (suc n) (drop i s)) ≡ true = rw (drop-cons s i 0 inside, ← num_one, one.low, one.high, ← add-one) rest.range in
    (record { room = rw (← next) rest.room; range = range }, rw (← next) q)

table_range : (s : List ℕ) (n i : ℕ) → ltb 0 n ≡ true → leb n 4 ≡ true → UnitsRead s n i → leb (rows_of (part i (i + n) s)) 128 ≡ true
    → in_range Table (length (part i (i + n) s)) (part i (i + n) s) ≡ true
unfolding in_range
table_range s n i low high u few =
    let same : part i (i + n) s ≡ take n (drop i s) = rw add-sub_cancel_left in
    let count : length (take n (drop i s)) ≡ n = length-take-le n (drop i s) (rw length-drop (omega (arith, u.room))) in
    rw (same, count, low, high, u.range) (rw same at few)

-- ---- grids

grid_within : (s : List ℕ) (rows m : ℕ) (g : Grid) → grid_at s rows m ≡ ok g → all_within (entries 4 (part g.cells g.end s)) ≡ true
unfolding grid_at
grid_within s rows m g e =
    let i : ℕ = m + map_size rows in
    let end : ℕ = i + 4 * bit_count (part m i s) in
    let (_, e₁) = test_inv (leb i (length s)) _ _ e in
    let (_, e₂) = test_inv (eqb (bits_from (part m i s) rows) 0) _ _ e₁ in
    let (_, e₃) = test_inv (leb end (length s)) _ _ e₂ in
    let (within, e₄) = test_inv (all_within (entries 4 (part i end s))) _ _ e₃ in
    rw (← ok_inv e₄) within

-- items, units and rows are in range, and the cells that stand are within the limit
pub record TableRead (s : List ℕ) (t : Layout) : Type 0 where
  pub range : in_range Table (length (units_of s t)) (units_of s t) ≡ true
  pub rows : t.rows ≡ rows_of (units_of s t)
  pub costs : all_within (entries 4 (part t.costs.cells t.costs.end s)) ≡ true
  pub values : all_within (entries 4 (part t.values.cells t.values.end s)) ≡ true

grids_read : (s : List ℕ) (n i : ℕ) (t : Layout) → ltb 0 n ≡ true → leb n 4 ≡ true → UnitsRead s n i → grids_at s i (i + n) ≡ ok t → TableRead s t
unfolding grids_at
grids_read s n i t low high u e =
    let rows : ℕ = rows_of (part i (i + n) s) in
    let (few, e₁) = test_inv (leb rows 128) _ _ e in
    let (c, ec, e₂) = bind_inv (grid_at s rows (i + n)) _ e₁ in
    let (v, ev, e₃) = bind_inv (grid_at s rows c.end) _ e₂ in
    rw (← ok_inv e₃)
    record { range = table_range s n i low high u few; rows = refl; costs = grid_within s rows _ c ec; values = grid_within s rows _ v ev }

pub table_read : (s : List ℕ) (i : ℕ) (t : Layout) → table_at s i ≡ ok t → TableRead s t
unfolding table_at
table_read s i t e =
    let (count, e₁) = passed (ranged_gives 1 4 s i) _ e in
    let (units, e₂) = passed (units_give s (num 1 s i) (i + 1) count.room) _ e₁ in
    grids_read s (num 1 s i) (i + 1) t count.low count.high units e₂
