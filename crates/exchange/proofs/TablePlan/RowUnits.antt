-- The units of a row: a row that holds the units of another row has more of them and a higher number, and the last row has them all.
-- Assumes nothing.
use mathlib.Core.Path.{◌≡◌, refl, ap, ◌∙◌}
use mathlib.Core.List.{List, [], ◌∷◌, foldr}
use Prim.Native.Nat.{ℕ, suc, ◌+◌, ◌-◌, ◌*◌, ◌/◌, ◌%◌, ◌≤◌, ◌<◌}
use native.Mathlib.Nat.{le_refl, zero-add, zero-mul, zero-div, zero-mod, mod-eq_of_lt, div-eq_of_lt, div-add-mod', mul-add-div_right, mul-add-mod_self_right, mul-le-mul_right, mod-lt, mod-one, add-zero}
use native.Mathlib.Decide.{dec_lt, ℕ_discrete}
use native.Mathlib.Omega.{arith}
use mir.Facts.{and_yes}
use lib.Dec.{T, leb, leb→le}
use Rattle.grid.specs.Rows.{rows_of}
use Rattle.grid.proofs.RowLaws.{rows_pos}
use Rattle.exchange.specs.Forms.{holds_row}

-- the units of all items in row a
unfoldable pub units_of : List ℕ → ℕ → ℕ
units_of [] a = 0
units_of (u ∷ us) a = a / rows_of us % (u + 1) + units_of us a

-- of each item row b has no fewer units
module _ (u : ℕ) (us : List ℕ) (a b : ℕ) (t : T (holds_row (u ∷ us) a b)) where
  first_item : a / rows_of us % (u + 1) ≤ b / rows_of us % (u + 1)
  unfolding holds_row
  first_item = leb→le _ _ (and_yes (leb (a / rows_of us % (u + 1)) (b / rows_of us % (u + 1))) (holds_row us a b) t).0

  other_items : T (holds_row us a b)
  unfolding holds_row
  other_items = (and_yes (leb (a / rows_of us % (u + 1)) (b / rows_of us % (u + 1))) (holds_row us a b) t).1

units_le : (us : List ℕ) (a b : ℕ) → T (holds_row us a b) → units_of us a ≤ units_of us b
unfolding units_of
units_le [] a b t = le_refl 0
units_le (u ∷ us) a b t = omega (arith, first_item u us a b t, units_le us a b (other_items u us a b t))

-- a row by the units of its first item and the row of the others
row_is : (u a : ℕ) (us : List ℕ) → a % rows_of (u ∷ us) ≡ a / rows_of us % (u + 1) * rows_of us + a % rows_of us
unfolding rows_of
row_is u a us =
    let R = rows_of us in
    let q = a / R in
    let d = q % (u + 1) in
    let k = q / (u + 1) in
    let e : (k * (u + 1) + d) * R ≡ q * R = ap (λ (x : ℕ). x * R) (div-add-mod' q (u + 1)) in
    let l : d < u + 1 = mod-lt q (omega arith) in
    let m : suc d * R ≤ (u + 1) * R = mul-le-mul_right R l in
    let split : a ≡ k * (R * (u + 1)) + (d * R + a % R) = omega (arith, div-add-mod' a R) in
    ap (λ (x : ℕ). x % (R * (u + 1))) split
    ∙ mul-add-mod_self_right k (R * (u + 1)) (d * R + a % R)
    ∙ mod-eq_of_lt (omega (arith, mod-lt a (rows_pos us)))

-- with no more units it is the same row
same_row : (us : List ℕ) (a b : ℕ) → T (holds_row us a b) → units_of us b ≤ units_of us a → a % rows_of us ≡ b % rows_of us
unfolding units_of rows_of
same_row [] a b t h = rw (mod-one a, mod-one b)
same_row (u ∷ us) a b t h =
    let x = first_item u us a b t in
    let y = units_le us a b (other_items u us a b t) in
    let e : a / rows_of us % (u + 1) ≡ b / rows_of us % (u + 1) = omega arith in
    rw (row_is u a us, row_is u b us, e, same_row us a b (other_items u us a b t) (omega arith))

pub units_rise : (us : List ℕ) (a b : ℕ) → a < rows_of us → b < rows_of us → T (holds_row us a b) → (a ≡ b → ⊥) → units_of us a < units_of us b
units_rise us a b ha hb t n = go (dec_lt (units_of us a) (units_of us b))
  where
    go : Dec (units_of us a < units_of us b) → units_of us a < units_of us b
    go (yes l) = l
    go (no m) = absurd (n (rw (mod-eq_of_lt ha, mod-eq_of_lt hb) at (same_row us a b t (omega arith))))

-- a row that holds the units of another row stands no earlier in its round
round_le : (us : List ℕ) (a b : ℕ) → T (holds_row us a b) → a % rows_of us ≤ b % rows_of us
unfolding rows_of
round_le [] a b t = rw (mod-one a, mod-one b) (le_refl 0)
round_le (u ∷ us) a b t =
    let R = rows_of us in
    let m : a / R % (u + 1) * R ≤ b / R % (u + 1) * R = mul-le-mul_right R (first_item u us a b t) in
    let y : a % R ≤ b % R = round_le us a b (other_items u us a b t) in
    rw (row_is u a us, row_is u b us) (omega arith)

-- so its number is no lower
pub holds_rises : (us : List ℕ) (a b : ℕ) → a < rows_of us → b < rows_of us → T (holds_row us a b) → a ≤ b
holds_rises us a b ha hb t = rw (mod-eq_of_lt ha, mod-eq_of_lt hb) at (round_le us a b t)

-- the last row of every round of the items has all units
round_units : (us : List ℕ) (k : ℕ) → units_of us (k * rows_of us + (rows_of us - 1)) ≡ foldr ◌+◌ 0 us
unfolding units_of rows_of
round_units [] k = refl
round_units (u ∷ us) k =
    let R = rows_of us in
    let p : 0 < R = rows_pos us in
    let e : k * (R * (u + 1)) + (R * (u + 1) - 1) ≡ (k * (u + 1) + u) * R + (R - 1) = omega arith in
    let l : R - 1 < R = omega arith in
    let d : ((k * (u + 1) + u) * R + (R - 1)) / R ≡ k * (u + 1) + u =
    mul-add-div_right p (k * (u + 1) + u) (R - 1) ∙ rw (div-eq_of_lt l) (add-zero _) in
    let w : u < u + 1 = omega arith in
    rw (e, d, mul-add-mod_self_right k (u + 1) u, mod-eq_of_lt w, round_units us (k * (u + 1) + u))

pub units_last : (us : List ℕ) → units_of us (rows_of us - 1) ≡ foldr ◌+◌ 0 us
units_last us = simp (zero-mul, zero-add) at (round_units us 0)

no_units : (us : List ℕ) → units_of us 0 ≡ 0
unfolding units_of
no_units [] = refl
no_units (u ∷ us) = rw (zero-div (rows_of us), zero-mod (u + 1), no_units us)

-- where there is a unit, row 0 is not the last
pub last_pos : (us : List ℕ) → 0 < foldr ◌+◌ 0 us → 0 < rows_of us - 1
last_pos us h = go (ℕ_discrete (rows_of us - 1) 0) (units_last us)
  where
    go : Dec (rows_of us - 1 ≡ 0) → units_of us (rows_of us - 1) ≡ foldr ◌+◌ 0 us → 0 < rows_of us - 1
    go (yes e) l = absurd (omega (arith, no_units us, rw e at l))
    go (no n) l = omega arith
