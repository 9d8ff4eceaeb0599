-- Every refusal of a record has a number from 1 to 7. Assumes nothing.
use mathlib.Core.Path.{◌≡◌, refl, subst}
use mathlib.Core.Bool.{Bool, true, false, cond}
use mathlib.Core.List.{List}
use Prim.Native.Nat.{ℕ, zero, suc, ◌+◌, ◌*◌, ◌<◌}
use native.Mathlib.Omega.{arith}
use lib.Dec.{leb, ltb, eqb}
use lib.ListN.{length}
use Rattle.area.specs.Entries.{entries}
use Rattle.grid.specs.Rows.{rows_of, rising}
use Rattle.grid.specs.Map.{map_size, bits_from, bit_count}
use Rattle.contract.specs.Res.{Res, refused, ok, bind, test}
use Rattle.contract.specs.Contract.{limit}
use Rattle.contract.specs.Field.{Head, field, ranged, money, amount, form_of, amounts, head_at}
use Rattle.contract.specs.Segments.{Sums, cost_value, segment, segments, segment_count, segment_body}
use Rattle.contract.specs.Table.{part, all_within, units_at, units_of, cells_of, grid_at, grids_at, Layout, table_at, table_end, table_body}
use Rattle.contract.specs.Parse.{parse, body_at}
use Rattle.contract.specs.declared.Form.{Form}
use Rattle.contract.specs.declared.Form.TheVariants.{Ladder, UnitPrices, Table}

-- a number from 1 to 7
abbrev Few : ℕ → Type 0
Few n = (0 < n) × (n < 8)

-- a value, or a refusal from 1 to 7
record Numbered {A : Type 0} (r : Res A) : Type 0 where
  few : (n : ℕ) → r ≡ refused n → Few n

value : {A : Type 0} {a : A} → Numbered (ok a)
value = record { few = λ n e. let z : ◌≡◌ {A = ℕ} 0 1 = cc in absurd (omega arith) }

refusal : {A : Type 0} {m : ℕ} → Few m → Numbered {A = A} (refused m)
refusal {m} f = record { few = λ n e. let q : m ≡ n = cc in subst Few q f }

tested : {A : Type 0} (n : ℕ) (t : Bool) (r : Res A) → Few n → Numbered r → Numbered (test n t r)
tested n true r f h = h
tested n false r f h = refusal f

bound : {A B : Type 0} (r : Res A) (f : A → Res B) → Numbered r → ((a : A) → Numbered (f a)) → Numbered (bind r f)
bound (refused n) f h g = refusal (h.few n refl)
bound (ok a) f h g = g a

one : Few 1
one = (omega arith, omega arith)

two : Few 2
two = (omega arith, omega arith)

three : Few 3
three = (omega arith, omega arith)

four : Few 4
four = (omega arith, omega arith)

five : Few 5
five = (omega arith, omega arith)

six : Few 6
six = (omega arith, omega arith)

seven : Few 7
seven = (omega arith, omega arith)

-- ---- the fields

field_few : (w : ℕ) (s : List ℕ) (i : ℕ) → Numbered (field w s i)
unfolding field
field_few w s i = tested 1 (leb (i + w) (length s)) _ one value

ranged_few : (w most : ℕ) (s : List ℕ) (i : ℕ) → Numbered (ranged w most s i)
unfolding ranged
ranged_few w most s i =
    bound _ _ (field_few w s i) (λ a. tested 5 (ltb 0 a.value) _ five (tested 5 (leb a.value most) _ five value))

money_few : (b : Bool) (s : List ℕ) (i : ℕ) → Numbered (money b s i)
unfolding money
money_few false s i = value
money_few true s i =
    bound _ _ (field_few 4 s i) (λ a. tested 3 (ltb 0 a.value) _ three (tested 4 (leb a.value limit) _ four value))

amount_few : (s : List ℕ) (n t i : ℕ) → Numbered (amount s n t i)
unfolding amount
amount_few s n t i =
    bound _ _ (field_few 4 s i) (λ a. tested 4 (leb a.value limit) _ four (tested 4 (leb (t + n * a.value) limit) _ four value))

form_few : (f : ℕ) → Numbered (form_of f)
unfolding form_of
form_few f = go (eqb f 1) (eqb f 2) (eqb f 4)
  where
    go : (a b c : Bool) → Numbered (cond a (ok Ladder) (cond b (ok UnitPrices) (cond c (ok Table) (refused 2))))
    go true b c = value
    go false true c = value
    go false false true = value
    go false false false = refusal two

head_few : (s : List ℕ) → Numbered (head_at s)
unfolding head_at amounts
head_few s =
    bound _ _ (field_few 2 s 0) (λ m.
    bound _ _ (form_few _) (λ f.
    bound _ _ (money_few _ s _) (λ p.
    bound _ _ (money_few _ s _) (λ a.
    bound _ _ (money_few _ s _) (λ b. value)))))

-- ---- the forms

rises_few : (s : List ℕ) (c : Sums) (n : ℕ) → Numbered (cost_value s c n)
unfolding cost_value
rises_few s c n = bound _ _ (amount_few s n _ _) (λ a. bound _ _ (amount_few s n _ _) (λ b. value))

segment_few : (p : Bool) (s : List ℕ) (c : Sums) → Numbered (segment p s c)
unfolding segment
segment_few false s c = rises_few s c 1
segment_few true s c =
    bound _ _ (ranged_few 1 255 s _) (λ a. tested 5 (leb (c.units + a.value) 1000) _ five (rises_few s _ _))

segments_few : (p : Bool) (s : List ℕ) (n : ℕ) (c : Sums) → Numbered (segments p s n c)
unfolding segments
segments_few p s zero c = value
segments_few p s (suc n) c = bound _ _ (segment_few p s c) (λ d. segments_few p s n d)

count_few : (p : Bool) (s : List ℕ) (i : ℕ) → Numbered (segment_count p s i)
unfolding segment_count
count_few false s i = ranged_few 2 1000 s i
count_few true s i = ranged_few 1 8 s i

body_few : (p : Bool) (s : List ℕ) (h : Head) → Numbered (segment_body p s h)
unfolding segment_body
body_few p s h =
    bound _ _ (count_few p s _) (λ n. bound _ _ (segments_few p s _ _) (λ c. tested 7 (eqb c.at (length s)) _ seven value))

units_few_lem : (s : List ℕ) (n i : ℕ) → Numbered (units_at s n i)
unfolding units_at
units_few_lem s zero i = value
units_few_lem s (suc n) i = bound _ _ (ranged_few 1 255 s i) (λ a. units_few_lem s n _)

grid_few : (s : List ℕ) (rows m : ℕ) → Numbered (grid_at s rows m)
unfolding grid_at
grid_few s rows m =
    let i : ℕ = m + map_size rows in
    let e : ℕ = i + 4 * bit_count (part m i s) in
    tested 1 (leb i (length s)) _ one (
    tested 3 (eqb (bits_from (part m i s) rows) 0) _ three (
    tested 1 (leb e (length s)) _ one (
    tested 4 (all_within (entries 4 (part i e s))) _ four value)))

grids_few : (s : List ℕ) (i e : ℕ) → Numbered (grids_at s i e)
unfolding grids_at
grids_few s i e =
    tested 5 (leb (rows_of (part i e s)) 128) _ five (bound _ _ (grid_few s _ _) (λ c. bound _ _ (grid_few s _ _) (λ v. value)))

end_few : (s : List ℕ) (h : Head) (t : Layout) → Numbered (table_end s h t)
unfolding table_end
end_few s h t =
    tested 6 (rising (units_of s t) (cells_of s t t.costs) t.rows) _ six (
    tested 6 (rising (units_of s t) (cells_of s t t.values) t.rows) _ six value)

table_few : (s : List ℕ) (h : Head) → Numbered (table_body s h)
unfolding table_body table_at
table_few s h =
    bound _ _ (bound _ _ (ranged_few 1 4 s _) (λ n. bound _ _ (units_few_lem s _ _) (λ e. grids_few s _ _)))
    (λ t. tested 7 (eqb t.values.end (length s)) _ seven (end_few s h t))

parse_few : (s : List ℕ) → Numbered (parse s)
unfolding parse
parse_few s = bound _ _ (head_few s) (λ h. go h.form h)
  where
    go : (f : Form) (h : Head) → Numbered (body_at f s h)
    go Ladder h = body_few false s h
    go UnitPrices h = body_few true s h
    go Table h = table_few s h

-- the number of a refusal
pub refusal_number : (s : List ℕ) (n : ℕ) → parse s ≡ refused n → (0 < n) × (n < 8)
refusal_number s n e = (parse_few s).few n e
