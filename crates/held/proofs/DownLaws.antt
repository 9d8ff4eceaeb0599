-- The way down through the rows that a row holds: from one that can pay to the next. Assumes nothing.
use mathlib.Core.Path.{◌≡◌, refl, sym, ap, subst, ◌∙◌}
use mathlib.Core.Bool.{Bool, true, false, ◌&&◌, and_assoc}
use mathlib.Core.List.{List, [], ◌∷◌}
use Rattle.std.proofs.Common.{Option, None, Some, is_some, ◌⊎◌, inl, inr}
use Prim.Native.Nat.{ℕ, zero, suc, ◌+◌, ◌-◌, ◌*◌, ◌/◌, ◌%◌, ◌^◌, ◌≤◌, ◌<◌}
use native.Mathlib.Nat.{add-zero, div-add-mod', div-div-eq-div-mul, div-eq_of_lt, div-mul-le_self, div-one, mod-eq_of_lt, mod-le, mod-lt, mod-mod, mod-one, mul-add-div_right, mul-add-mod_self_right, mul_assoc, mul_comm, mul-le-mul_right, mul-one}
use native.Mathlib.Decide.{dec_lt, ℕ_discrete}
use native.Mathlib.Omega.{arith}
use mir.Facts.{and_yes, yes_and}
use lib.Dec.{T, leb, leb→le, le→leb}
use lib.ListN.{length, get_or, take, drop}
use Rattle.grid.specs.Rows.{rows_of}
use Rattle.grid.proofs.RowLaws.{rest_mul, rows_pos, rows_cons, rows_end}
use Rattle.grid.proofs.UnitLaws.{packed_lane}
use Rattle.grid.proofs.BelowLaws.{no_byte}
use Rattle.exchange.specs.Forms.{holds_row}
use Rattle.exchange.proofs.TableLaws.{row_self}
use Rattle.exchange.proofs.TablePlan.RowUnits.{holds_rises}
use Rattle.grid.specs.Units.{unit_of, packed, Small}
use Rattle.grid.specs.Below.{Strides}
use Rattle.held.specs.Down.{Open, CapsRise, Down, OneLess}
use Rattle.held.proofs.HoldLaws.{holds_cons}

-- ---- rows by the items before one, that item, and those after it

rows_split : (j : ℕ) (us : List ℕ) → rows_of us ≡ rows_of (drop j us) * rows_of (take j us)
unfolding rows_of
rows_split zero us = sym (mul-one (rows_of us))
rows_split (suc j) [] = refl
rows_split (suc j) (u ∷ us) = ap (λ (n : ℕ). n * (u + 1)) (rows_split j us) ∙ mul_assoc (rows_of (drop j us)) (rows_of (take j us)) (u + 1)

holds_split : (j : ℕ) (us : List ℕ) (a b : ℕ)
    → holds_row us a b ≡ (holds_row (take j us) (a / rows_of (drop j us)) (b / rows_of (drop j us)) && holds_row (drop j us) a b)
unfolding holds_row
holds_split zero us a b = refl
holds_split (suc j) [] a b = refl
holds_split (suc j) (u ∷ us) a b =
    let R = rows_of (drop j us) in
    let m = rows_of (take j us) in
    rw (rows_split j us, ← div-div-eq-div-mul a R m, ← div-div-eq-div-mul b R m, holds_split j us a b)
    (sym (and_assoc (leb (a / R / m % (u + 1)) (b / R / m % (u + 1))) (holds_row (take j us) (a / R) (b / R)) (holds_row (drop j us) a b)))

by_digit : (m n q d : ℕ) → m ≡ q * n + d → d < n → (m / n ≡ q) × (m % n ≡ d)
by_digit m n q d e h =
    (rw e (mul-add-div_right (omega arith) q d ∙ rw (div-eq_of_lt h) (add-zero q)), rw e (mul-add-mod_self_right q n d ∙ mod-eq_of_lt h))

-- a row of a round, by the units of its first item and the row of the others
mod_split : (a R u : ℕ) → 0 < R → a % (R * (u + 1)) ≡ a / R % (u + 1) * R + a % R
mod_split a R u p = rest_mul a R (u + 1) p (omega arith) ∙ rw (mul_comm R (a / R % (u + 1)))

-- every round has the same units
digits : (a a' R u : ℕ) → 0 < R → a % (R * (u + 1)) ≡ a' % (R * (u + 1)) → (a / R % (u + 1) ≡ a' / R % (u + 1)) × (a % R ≡ a' % R)
digits a a' R u p e =
    let x = by_digit _ R (a / R % (u + 1)) (a % R) (mod_split a R u p) (mod-lt a p) in
    let y = by_digit _ R (a' / R % (u + 1)) (a' % R) (mod_split a' R u p) (mod-lt a' p) in
    (sym x.0 ∙ ap (λ (m : ℕ). m / R) e ∙ y.0, sym x.1 ∙ ap (λ (m : ℕ). m % R) e ∙ y.1)

holds_round : (us : List ℕ) (a a' b b' : ℕ) → a % rows_of us ≡ a' % rows_of us → b % rows_of us ≡ b' % rows_of us → holds_row us a b ≡ holds_row us a' b'
unfolding holds_row rows_of
holds_round [] a a' b b' e f = refl
holds_round (u ∷ us) a a' b b' e f =
    let x = digits a a' (rows_of us) u (rows_pos us) e in
    let y = digits b b' (rows_of us) u (rows_pos us) f in
    rw (x.0, y.0, holds_round us a a' b b' x.1 y.1)

-- a row stands no later in its round than one that holds it
round_le : (us : List ℕ) (a b : ℕ) → T (holds_row us a b) → a % rows_of us ≤ b % rows_of us
round_le us a b t =
    let R = rows_of us in
    holds_rises us (a % R) (b % R) (mod-lt a (rows_pos us)) (mod-lt b (rows_pos us))
    (subst T (holds_round us a (a % R) b (b % R) (sym (mod-mod a R)) (sym (mod-mod b R))) t)

-- row b holds row a, by the items before item j, item j, and those after it
record Parts (us : List ℕ) (j a b : ℕ) : Type 0 where
  before : T (holds_row (take j us) (a / rows_of (drop j us)) (b / rows_of (drop j us)))
  here : unit_of us j a ≤ unit_of us j b
  after : T (holds_row (drop (j + 1) us) a b)

module _ (us : List ℕ) (j : ℕ) (more : j < length us) where
  parts : (a b : ℕ) → T (holds_row us a b) → Parts us j a b
  parts a b t =
      let R = rows_of (drop j us) in
      let x = and_yes (holds_row (take j us) (a / R) (b / R)) (holds_row (drop j us) a b) (subst T (holds_split j us a b) t) in
      let y = and_yes (leb (unit_of us j a) (unit_of us j b)) (holds_row (drop (j + 1) us) a b) (subst T (holds_cons j us a b more) x.1) in
      record { before = x.0; here = leb→le _ _ y.0; after = y.1 }

  whole : (a b : ℕ) → Parts us j a b → T (holds_row us a b)
  whole a b p =
      let R = rows_of (drop j us) in
      let y = yes_and (leb (unit_of us j a) (unit_of us j b)) (holds_row (drop (j + 1) us) a b) (le→leb _ _ p.here) p.after in
      subst T (sym (holds_split j us a b))
      (yes_and (holds_row (take j us) (a / R) (b / R)) (holds_row (drop j us) a b) p.before (subst T (sym (holds_cons j us a b more)) y))

  -- a row by the items up to item j
  up : (a : ℕ) → a / rows_of (drop j us) ≡ a / rows_of (drop (j + 1) us) / (get_or us j 0 + 1)
  up a = rw (rows_cons j us more) (sym (div-div-eq-div-mul a (rows_of (drop (j + 1) us)) (get_or us j 0 + 1)))

  -- row y has one unit less of item j than row a, and of the items after it those of row b
  module _ (a b y : ℕ) (some : 0 < unit_of us j a) (less : y / rows_of (drop (j + 1) us) ≡ a / rows_of (drop (j + 1) us) - 1)
      (back : y % rows_of (drop (j + 1) us) ≡ b % rows_of (drop (j + 1) us)) where
    one_less : (y / rows_of (drop j us) ≡ a / rows_of (drop j us)) × (unit_of us j y ≡ unit_of us j a - 1)
    one_less =
        let q = a / rows_of (drop (j + 1) us) in
        let n = get_or us j 0 + 1 in
        let x = by_digit (q - 1) n (q / n) (q % n - 1) (omega (arith, div-add-mod' q n)) (omega (arith, mod-lt q {m = n} (omega arith))) in
        (rw (up y, up a, less) x.0, rw less x.1)

    -- where row b holds row a, it holds row y
    less_held : T (holds_row us a b) → T (holds_row us y b)
    less_held t =
        let p = parts a b t in
        whole y b
        (record {
          before = rw one_less.0 p.before;
          here = omega (arith, one_less.1, p.here);
          after = subst T (holds_round (drop (j + 1) us) y y y b refl back) (row_self (drop (j + 1) us) y);
        })

    -- row y holds each row that row b holds and that has fewer units of item j than row a, and of the items before it those of row a
    less_holds : (r : ℕ) → T (holds_row us r b) → r / rows_of (drop j us) ≡ a / rows_of (drop j us)
        → r / rows_of (drop (j + 1) us) < a / rows_of (drop (j + 1) us) → T (holds_row us r y)
    less_holds r t e l =
        let n = get_or us j 0 + 1 in
        let p = parts r b t in
        let q = a / rows_of (drop (j + 1) us) in
        let x = r / rows_of (drop (j + 1) us) in
        let f : x / n ≡ q / n = sym (up r) ∙ e ∙ up a in
        let g : x / n * n ≡ q / n * n = ap (λ (m : ℕ). m * n) f in
        whole r y
        (record {
          before = rw (one_less.0, e) (row_self (take j us) (a / rows_of (drop j us)));
          here = omega (arith, one_less.1, div-add-mod' x n, div-add-mod' q n);
          after = subst T (holds_round (drop (j + 1) us) r r b y refl (sym back)) p.after;
        })

-- ---- quotients

div_rises : (x y s : ℕ) → 0 < s → x ≤ y → x / s ≤ y / s
div_rises x y s p l = go (dec_lt (y / s) (x / s))
  where
    go : Dec (y / s < x / s) → x / s ≤ y / s
    go (yes m) =
        let k : suc (y / s) * s ≤ x / s * s = mul-le-mul_right s m in
        absurd (omega (arith, div-add-mod' x s, div-add-mod' y s, mod-lt y p))
    go (no m) = omega arith

-- ---- the way down from row a, from the last item to the first

-- no open row below row a has its units of the items before j; row has those units, and of the items from j on those of row b
pub record Descending (us caps : List ℕ) (b need a j stride row : ℕ) : Type 0 where
  pub within : j ≤ length us
  pub stride_is : stride ≡ rows_of (drop j us)
  pub row_is : row ≡ a / stride * stride + b % stride
  pub passed : (r : ℕ) → r < a → r / stride ≡ a / stride → Open us caps b need r → ⊥

pub descending_start : (us caps : List ℕ) (b need a : ℕ) → Descending us caps b need a (length us - 0) 1 a
descending_start us caps b need a =
    let all : length us - 0 ≡ length us = omega arith in
    record {
      within = omega arith;
      stride_is = rw all (sym (rows_end us));
      row_is = omega (arith, div-one a, mod-one b);
      passed = λ r l e o. omega (arith, div-one a, div-one r);
    }

-- all items are tried
descending_none : (us caps : List ℕ) (b need a j stride row : ℕ) → Descending us caps b need a j stride row → j ≡ 0 → a < rows_of us
    → Down us caps b need a None
descending_none us caps b need a j stride row h z l =
    let all : stride ≡ rows_of us = h.stride_is ∙ rw z in
    record {
      lower = omega arith;
      opens = tt;
      passed = λ r m k o.
          let e : r / stride ≡ 0 = div-eq_of_lt (omega arith) in
          let f : a / stride ≡ 0 = div-eq_of_lt (omega arith) in
          h.passed r k (e ∙ sym f) o;
    }

module _ {us caps : List ℕ} {b need a j stride row : ℕ} (h : Descending us caps b need a j stride row) (some : 0 < j) where
  one : j - 1 + 1 ≡ j
  one = omega arith

  before : j - 1 < length us
  before = omega (arith, h.within)

  stride_at : stride ≡ rows_of (drop (j - 1 + 1) us)
  stride_at = rw one h.stride_is

  stride_pos : 0 < stride
  stride_pos = rw h.stride_is (rows_pos (drop j us))

  -- the units of the item before j, by the stride
  unit_is : (r : ℕ) → unit_of us (j - 1) r ≡ r / stride % (get_or us (j - 1) 0 + 1)
  unit_is r = rw (← stride_at)

  stride_next : stride * (get_or us (j - 1) 0 + 1) ≡ rows_of (drop (j - 1) us)
  stride_next = sym (rows_cons (j - 1) us before ∙ rw (← stride_at))

  module _ (has : ℕ) (e : has ≡ unit_of us (j - 1) a) where
    has_rows : has * stride ≡ a / stride % (get_or us (j - 1) 0 + 1) * stride
    has_rows = ap (λ (x : ℕ). x * stride) (e ∙ unit_is a)

    -- the row with one unit less of the item
    module _ (unit : 0 < has) where
      less_is : (stride ≤ row) × (((row - stride) / stride ≡ a / stride - 1) × ((row - stride) % stride ≡ b % stride))
      less_is =
          let q = a / stride in
          let n = get_or us (j - 1) 0 + 1 in
          let some_rows : 0 < q = omega (arith, e, unit_is a, mod-le q n) in
          let all : q - 1 + 1 ≡ q = omega arith in
          let m : (q - 1 + 1) * stride ≡ q * stride = ap (λ (x : ℕ). x * stride) all in
          (omega (arith, h.row_is), by_digit (row - stride) stride (q - 1) (b % stride) (omega (arith, h.row_is)) (mod-lt b stride_pos))

      less_low : stride ≤ row
      less_low = less_is.0

      less_below : row - stride < a
      less_below = omega (arith, h.row_is, less_low, div-add-mod' a stride, mod-lt b stride_pos)

      less_divided : (row - stride) / rows_of (drop (j - 1 + 1) us) ≡ a / rows_of (drop (j - 1 + 1) us) - 1
      less_divided = rw (← stride_at) less_is.1.0

      less_back : (row - stride) % rows_of (drop (j - 1 + 1) us) ≡ b % rows_of (drop (j - 1 + 1) us)
      less_back = rw (← stride_at) less_is.1.1

      -- it is the next row down, where it can pay
      descending_found : T (holds_row us a b) → need ≤ get_or caps (row - stride) 0 → Down us caps b need a (Some (row - stride))
      descending_found t pays =
          record {
            lower = omega (arith, less_below);
            opens = record { held = less_held us (j - 1) before a b (row - stride) (omega (arith, e)) less_divided less_back t; pays = pays };
            passed = λ r l m o. go r l m o (ℕ_discrete (r / stride) (a / stride));
          }
        where
          -- a row between them that row b holds has the units of row a of the items before j
          go : (r : ℕ) → row - stride + 1 ≤ r → r < a → Open us caps b need r → Dec (r / stride ≡ a / stride) → ⊥
          go r l m o (yes q) = h.passed r m q o
          go r l m o (no q) =
              let y = row - stride in
              let up : r / stride ≤ a / stride = div_rises r a stride stride_pos (omega arith) in
              let down : y / stride ≤ r / stride = div_rises y r stride stride_pos (omega arith) in
              let same : r / stride ≡ y / stride = omega (arith, less_is.1.0) in
              let g : r / stride * stride ≡ y / stride * stride = ap (λ (x : ℕ). x * stride) same in
              let k : r % stride ≤ b % stride = rw stride_at (round_le (drop (j - 1 + 1) us) r b (parts us (j - 1) before r b o.held).after) in
              omega (arith, div-add-mod' r stride, div-add-mod' y stride, less_is.1.1)

    -- the row with the units of row b of the item
    module _ (t : T (holds_row us a b)) (full : ℕ) (f : full ≡ unit_of us (j - 1) b) where
      unit_held : has ≤ full
      unit_held = rw (e, f) (parts us (j - 1) before a b t).here

      module _ (row' stride' : ℕ) (next : row' ≡ row + (full - has) * stride) (wide : stride' ≡ rows_of (drop (j - 1) us)) where
        abbrev n : ℕ
        n = get_or us (j - 1) 0 + 1

        widened : stride' ≡ stride * n
        widened = wide ∙ sym stride_next

        moved : row' ≡ a / stride' * stride' + b % stride'
        moved =
            let g : (a / stride / n * n + a / stride % n) * stride ≡ a / stride * stride = ap (λ (x : ℕ). x * stride) (div-add-mod' (a / stride) n) in
            let i : full * stride ≡ b / stride % n * stride = ap (λ (x : ℕ). x * stride) (f ∙ unit_is b) in
            let all : full - has + has ≡ full = omega (arith, unit_held) in
            let m : (full - has + has) * stride ≡ full * stride = ap (λ (x : ℕ). x * stride) all in
            rw (widened, mod_split b stride (get_or us (j - 1) 0) stride_pos, ← div-div-eq-div-mul a stride n)
            (omega (arith, next, h.row_is, has_rows))

        row_high : row' ≤ a + b
        row_high = omega (arith, moved, div-mul-le_self a stride', mod-le b stride')

        -- the row with one unit less cannot pay, so no row with fewer units of the item can
        module _ (rise : CapsRise us caps) (few : a < rows_of us) (poor : 0 < has → get_or caps (row - stride) 0 < need) where
          fewer : (r : ℕ) → r < a → r / stride < a / stride → r / stride' ≡ a / stride' → Open us caps b need r → ⊥
          fewer r l m same o = go (dec_lt 0 has)
            where
              above : r / stride / n ≡ a / stride / n
              above = div-div-eq-div-mul r stride n ∙ (rw widened at same) ∙ sym (div-div-eq-div-mul a stride n)

              go : Dec (0 < has) → ⊥
              go (yes p) =
                  let holds : T (holds_row us r (row - stride)) =
                  less_holds us (j - 1) before a b (row - stride) (omega (arith, e)) (less_divided p) (less_back p) r o.held
                  (rw (← wide) same) (rw (← stride_at) m) in
                  omega (arith, rise.cap_rises r (row - stride) (omega arith) (omega (arith, less_below p)) holds, poor p, o.pays)
              go (no p) =
                  let g : r / stride / n * n ≡ a / stride / n * n = ap (λ (x : ℕ). x * n) above in
                  omega (arith, e, unit_is a, div-add-mod' (r / stride) n, div-add-mod' (a / stride) n)

          descending_next : Descending us caps b need a (j - 1) stride' row'
          descending_next =
              record {
                within = omega (arith, h.within);
                stride_is = wide;
                row_is = moved;
                passed = λ r l same o. go r l same o (ℕ_discrete (r / stride) (a / stride));
              }
            where
              go : (r : ℕ) → r < a → r / stride' ≡ a / stride' → Open us caps b need r → Dec (r / stride ≡ a / stride) → ⊥
              go r l same o (yes q) = h.passed r l q o
              go r l same o (no q) = fewer r l (omega (arith, div_rises r a stride stride_pos (omega arith))) same o

-- ---- the items as the code tries them: i counts those that are tried

poor_of : {caps : List ℕ} {row stride has need : ℕ} {o : Option ℕ} → OneLess caps row stride has need o → is_some o ≡ false
    → 0 < has → get_or caps (row - stride) 0 < need
poor_of {o = None} tried e = tried.poor
poor_of {o = Some r} tried e = cc

pub first_byte : (p : ℕ) → p % 256 ≡ p / 256 ^ 0 % 256
first_byte p = rw (div-one p)

module _ {us strides caps : List ℕ} {a b less more need : ℕ}
    (pre : Small us × Strides us strides × (less ≡ packed us a) × (more ≡ packed us b) × CapsRise us caps × (a < rows_of us) × (b < rows_of us) × Open us caps b need a) where
  -- the units of the next item, by a row's word
  unit_at : (r i : ℕ) {word : ℕ} → word ≡ packed us r → i < length us → word / 256 ^ i % 256 ≡ unit_of us (length us - i - 1) r
  unit_at r i w m =
      let e : length us - suc (length us - i - 1) ≡ i = omega arith in
      rw w (rw e at (packed_lane us (length us - i - 1) r pre.0 (omega arith)))

  item_of : (i : ℕ) → 0 < less / 256 ^ i % 256 → i < length us
  item_of i u = go (dec_lt i (length us))
    where
      go : Dec (i < length us) → i < length us
      go (yes l) = l
      go (no l) = absurd (omega (arith, u, ap (λ (w : ℕ). w / 256 ^ i % 256) pre.2, no_byte us a i pre.0 (omega arith)))

  module _ (i : ℕ) {stride row has : ℕ} (h : Descending us caps b need a (length us - i) stride row) (e : has ≡ less / 256 ^ i % 256) where
    has_is : i < length us → has ≡ unit_of us (length us - i - 1) a
    has_is l = e ∙ unit_at a i pre.2 l

    some_item : 0 < has → i < length us
    some_item u = item_of i (rw (← e) u)

    pub level_asks : (0 < has → stride ≤ row) × (0 < has → row - stride < 128)
    level_asks = (
      λ u. let l = some_item u in less_low h (omega arith) has (has_is l) u,
      λ u. let l = some_item u in omega (arith, less_below h (omega arith) has (has_is l) u, pre.5, pre.0.rows),
    )

    module _ {o : Option ℕ} (tried : OneLess caps row stride has need o) where
      found_row : (r : ℕ) → o ≡ Some r → Down us caps b need a o
      found_row r q =
          let x = rw q at tried.found in
          let l = some_item x.0 in
          rw (q, x.2) (descending_found h (omega arith) has (has_is l) x.0 pre.7.held (rw x.2 at x.1))

      none_left : o ≡ None → length us < i + 2 → Down us caps b need a o
      none_left q last = rw q (go (dec_lt i (length us)))
        where
          go : Dec (i < length us) → Down us caps b need a None
          go (yes l) =
              descending_none _ _ _ _ _ _ _ _
              (descending_next h (omega arith) has (has_is l) pre.7.held (unit_of us (length us - i - 1) b) refl _ _ refl refl pre.4 pre.5 (rw q at tried.poor))
              (omega arith) pre.5
          go (no l) = descending_none _ _ _ _ _ _ _ _ h (omega arith) pre.5

      -- the last item to try
      pub level_last : length us < i + 2 → Down us caps b need a o
      level_last last = go o refl
        where
          go : (x : Option ℕ) → o ≡ x → Down us caps b need a o
          go None q = none_left q last
          go (Some r) q = found_row r q

      -- a row is found, or there is no item more
      pub level_stop : {t : Bool} → t ≡ is_some o → (t ≡ true) ⊎ ((t ≡ false) × (length us < i + 2)) → Down us caps b need a o
      level_stop {t} q f = go o refl f
        where
          go : (x : Option ℕ) → o ≡ x → (t ≡ true) ⊎ ((t ≡ false) × (length us < i + 2)) → Down us caps b need a o
          go (Some r) e g = found_row r e
          go None e (inl g) = cc
          go None e (inr g) = none_left e g.1

    -- there is an item more
    module _ {full : ℕ} (further : i + 1 < length us) (f : full ≡ more / 256 ^ i % 256) where
      full_is : full ≡ unit_of us (length us - i - 1) b
      full_is = f ∙ unit_at b i pre.3 (omega arith)

      own : has ≡ unit_of us (length us - i - 1) a
      own = has_is (omega arith)

      stride_known : get_or strides (i + 1) 0 ≡ rows_of (drop (length us - i - 1) us)
      stride_known =
          let s : length us - i - 1 ≡ length us - (i + 1) = omega arith in
          rw s (pre.1.stride_at (i + 1) further)

      pub level_fits : (has ≤ full) × (row + (full - has) * stride < 2 ^ 64)
      level_fits = (
        unit_held h (omega arith) has own pre.7.held full full_is,
        omega (arith, row_high h (omega arith) has own pre.7.held full full_is _ _ refl stride_known, pre.5, pre.6, pre.0.rows),
      )

      pub level_next : {o : Option ℕ} {t : Bool} {row' : ℕ} → OneLess caps row stride has need o → t ≡ is_some o → t ≡ false
          → row' ≡ row + (full - has) * stride
          → Descending us caps b need a (length us - (i + 1)) (get_or strides (i + 1) 0) row'
      level_next {o} tried q z next =
          let s : length us - (i + 1) ≡ length us - i - 1 = omega arith in
          rw s (descending_next h (omega arith) has own pre.7.held full full_is _ _ next stride_known pre.4 pre.5 (poor_of tried (sym q ∙ z)))

  -- the first item is tried, and the units of row b put back
  pub level_one : {o : Option ℕ} {t : Bool} {row : ℕ} → 1 < length us → OneLess caps a 1 (less % 256) need o → t ≡ is_some o → t ≡ false
      → row ≡ a + (more % 256 - less % 256) * 1 → Descending us caps b need a (length us - 1) (get_or strides 1 0) row
  level_one further tried q z next = level_next 0 (descending_start us caps b need a) (first_byte less) further (first_byte more) tried q z next
