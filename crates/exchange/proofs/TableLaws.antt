-- The rows of a table: where no cell is below that of a row with one unit less of one item, none is below that of a row whose units it
-- holds. Assumes nothing.
use mathlib.Core.Path.{◌≡◌, refl, sym, ap₂, subst, ◌∙◌}
use mathlib.Core.Bool.{true, ◌&&◌}
use mathlib.Core.List.{List, [], ◌∷◌}
use Prim.Native.Nat.{ℕ, suc, ◌+◌, ◌-◌, ◌*◌, ◌/◌, ◌%◌, ◌≤◌, ◌<◌}
use native.Mathlib.Decide.{le_ind}
use native.Mathlib.Nat.{add-zero, le_refl, le_trans, mod-lt, mod-eq_of_lt, div-eq_of_lt, div-add-mod', div-lt_iff_lt-mul, mul-add-div_right, mul-add-mod_self_right, mul-le-mul_right, zero-div, zero-mod, zero-mul, zero-add}
use native.Mathlib.Omega.{arith}
use mir.Facts.{and_yes}
use borrow.Author.Tests.{lt-ltb, le-leb}
use lib.Dec.{T, leb, leb→le}
use lib.ListN.{get_or}
use Rattle.grid.specs.Rows.{rows_of, less_one, largest_below, rising}
use Rattle.grid.proofs.RowLaws.{rows_pos, rising_at}
use Rattle.exchange.specs.Forms.{holds_row}

-- ---- which rows hold the units of another

pub row_self : (us : List ℕ) (a : ℕ) → T (holds_row us a a)
unfolding holds_row
row_self [] a = tt
row_self (u ∷ us) a = let x : ℕ = a / rows_of us % (u + 1) in rw (le-leb x x (omega arith)) (row_self us a)

pub row_start : (us : List ℕ) (a : ℕ) → T (holds_row us 0 a)
unfolding holds_row
row_start [] a = tt
row_start (u ∷ us) a = rw (zero-div, zero-mod, le-leb 0 (a / rows_of us % (u + 1)) (omega arith)) (row_start us a)

-- row r of these items in round k: they come round once for each row of the items before them
abbrev in_round : List ℕ → ℕ → ℕ → ℕ
in_round us k r = k * rows_of us + r

-- in round k of all the items, d units of the first one
round_is : (u : ℕ) (us : List ℕ) (k d r : ℕ) → in_round (u ∷ us) k (d * rows_of us + r) ≡ in_round us (k * (u + 1) + d) r
unfolding rows_of
round_is u us k d r = omega arith

-- every round has the same units
units_again : (u R k a : ℕ) → 0 < R → (k * (u + 1) * R + a) / R % (u + 1) ≡ a / R % (u + 1)
units_again u R k a h = rw (mul-add-div_right h (k * (u + 1)) a) (mul-add-mod_self_right k (u + 1) (a / R))

holds_again : (us : List ℕ) (i j a b : ℕ) → holds_row us (in_round us i a) (in_round us j b) ≡ holds_row us a b
unfolding holds_row rows_of
holds_again [] i j a b = refl
holds_again (u ∷ us) i j a b =
    let h : 0 < rows_of us = rows_pos us in
    let e : in_round (u ∷ us) i a ≡ in_round us (i * (u + 1)) a = omega arith in
    let f : in_round (u ∷ us) j b ≡ in_round us (j * (u + 1)) b = omega arith in
    rw (e, f)
    (ap₂ ◌&&◌ (ap₂ leb (units_again u (rows_of us) i a h) (units_again u (rows_of us) j b h)) (holds_again us (i * (u + 1)) (j * (u + 1)) a b))

-- ---- rising

module _ (cells : List ℕ) where
  -- in round k no cell is below that of a row with one unit less of one of these items
  abbrev Local : List ℕ → ℕ → Type 0
  Local us k = (r : ℕ) → r < rows_of us → largest_below us cells (in_round us k r) ≤ get_or cells (in_round us k r) 0

  module _ (u : ℕ) (us : List ℕ) (k : ℕ) (local : Local (u ∷ us) k) where
    at_units : (d r : ℕ) → d ≤ u → r < rows_of us
        → largest_below (u ∷ us) cells (in_round us (k * (u + 1) + d) r) ≤ get_or cells (in_round us (k * (u + 1) + d) r) 0
    unfolding rows_of
    at_units d r h l =
        let m : d * rows_of us ≤ u * rows_of us = mul-le-mul_right (rows_of us) h in
        rw (round_is u us k d r) at (local (d * rows_of us + r) (omega arith))

    -- so it is with each number of units of the first item
    inner : (d : ℕ) → d ≤ u → Local us (k * (u + 1) + d)
    unfolding largest_below
    inner d h r l = omega (arith, at_units d r h l)

    one_more : (d r : ℕ) → suc d ≤ u → r < rows_of us
        → get_or cells (in_round us (k * (u + 1) + d) r) 0 ≤ get_or cells (in_round us (k * (u + 1) + suc d) r) 0
    unfolding largest_below less_one
    one_more d r h l =
        let units : in_round us (k * (u + 1) + suc d) r / rows_of us % (u + 1) ≡ suc d =
        rw (mul-add-div_right (rows_pos us) (k * (u + 1) + suc d) r, div-eq_of_lt l, add-zero)
        (mul-add-mod_self_right k (u + 1) (suc d) ∙ mod-eq_of_lt (omega arith)) in
        let less : in_round us (k * (u + 1) + suc d) r - rows_of us ≡ in_round us (k * (u + 1) + d) r = omega arith in
        omega (arith, rw (units, lt-ltb 0 (suc d) (omega arith), less) at (at_units (suc d) r h l))

    more : (r d e : ℕ) → r < rows_of us → d ≤ e → e ≤ u
        → get_or cells (in_round us (k * (u + 1) + d) r) 0 ≤ get_or cells (in_round us (k * (u + 1) + e) r) 0
    more r d e l =
        le_ind (λ (m : ℕ). m ≤ u → get_or cells (in_round us (k * (u + 1) + d) r) 0 ≤ get_or cells (in_round us (k * (u + 1) + m) r) 0)
        (λ i. le_refl _) (λ m _ up i. le_trans (up (omega arith)) (one_more m r i l)) e

  -- first the other items rise, with the first one's units as they are in a, then the first
  round_rises : (us : List ℕ) (k : ℕ) → Local us k → (a b : ℕ) → a < rows_of us → b < rows_of us → T (holds_row us a b)
      → get_or cells (in_round us k a) 0 ≤ get_or cells (in_round us k b) 0
  unfolding rows_of holds_row
  round_rises [] k local a b ha hb t = let e : a ≡ b = omega arith in rw e (le_refl _)
  round_rises (u ∷ us) k local a b ha hb t =
      let R : ℕ = rows_of us in
      let pos : 0 < R = rows_pos us in
      let la : a / R < u + 1 = (div-lt_iff_lt-mul pos).1 (omega arith) in
      let lb : b / R < u + 1 = (div-lt_iff_lt-mul pos).1 (omega arith) in
      let both = and_yes (leb (a / R % (u + 1)) (b / R % (u + 1))) (holds_row us a b) t in
      let units : a / R ≤ b / R = rw (mod-eq_of_lt la, mod-eq_of_lt lb) at (leb→le (a / R % (u + 1)) (b / R % (u + 1)) both.0) in
      let others : holds_row us a b ≡ holds_row us (a % R) (b % R) =
      ap₂ (holds_row us) (sym (div-add-mod' a R)) (sym (div-add-mod' b R)) ∙ holds_again us (a / R) (b / R) (a % R) (b % R) in
      let ea : in_round (u ∷ us) k a ≡ in_round us (k * (u + 1) + a / R) (a % R) = omega (arith, div-add-mod' a R) in
      let eb : in_round (u ∷ us) k b ≡ in_round us (k * (u + 1) + b / R) (b % R) = omega (arith, div-add-mod' b R) in
      rw (ea, eb)
      (le_trans
      (round_rises us (k * (u + 1) + a / R) (inner u us k local (a / R) (omega arith)) (a % R) (b % R) (mod-lt a pos) (mod-lt b pos)
      (subst T others both.1))
      (more u us k local (b % R) (a / R) (b / R) (mod-lt b pos) units (omega arith)))

  pub rows_rise : (us : List ℕ) → rising us cells (rows_of us) ≡ true → (a b : ℕ) → a < rows_of us → b < rows_of us → T (holds_row us a b)
      → get_or cells a 0 ≤ get_or cells b 0
  rows_rise us e a b ha hb t =
      simp (zero-mul, zero-add) at (round_rises us 0 (λ r l. simp (zero-mul, zero-add) (rising_at us cells (rows_of us) e r l)) a b ha hb t)
