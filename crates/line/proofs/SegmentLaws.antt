-- Laws of segments: sums along them, which segments fit, and units of one segment on. Assumes nothing.
use mathlib.Core.Path.{◌≡◌, refl, sym, ap, ◌∙◌}
use mathlib.Core.Logic.{◌↔◌}
use Rattle.std.proofs.Common.{nat_eq}
use Rattle.std.specs.List.{list_any}
use mathlib.Core.Bool.{Bool, true, false, not, and-eq-true_iff}
use mathlib.Core.List.{List, [], ◌∷◌}
use Prim.Native.Nat.{ℕ, zero, suc, ◌+◌, ◌*◌, ◌≤◌, ◌<◌, ◌^◌}
use native.Mathlib.Omega.{arith}
use native.Mathlib.Decide.{dec_le}
use native.Mathlib.Numerals.{add-one}
use borrow.Author.Tests.{ltb-true, eqb-true, lt-ltb, eq-eqb, ne_eqb}
use lib.Dec.{ltb}
use lib.ListN.{length, get_or, replicate, length-append, length-replicate, get_or-replicate, get_or-append, get_or-eq_default}
use lib.Seq.{get_or-append-add}
use Rattle.exchange.specs.Forms.{along}
use Rattle.exchange.proofs.FormLaws.{along_rises}
use Rattle.line.specs.Segments.{spread, all_have, fits}
use Rattle.line.specs.Code.{sum_to, Fit, Known, At, Open, There, origin}
use Rattle.line.specs.declared.Cursor.{Cursor}
use Rattle.line.specs.declared.Totals.{Totals}

-- ---- sums

pub sum_zero : (xs : List ℕ) → sum_to xs 0 ≡ 0
unfolding along
sum_zero [] = refl
sum_zero (x ∷ xs) = refl

pub sum_suc : (xs : List ℕ) (k : ℕ) → sum_to xs (suc k) ≡ sum_to xs k + get_or xs k 0
unfolding along
sum_suc [] k = omega arith
sum_suc (x ∷ xs) zero = omega (arith, sum_zero xs)
sum_suc (x ∷ xs) (suc k) = omega (arith, sum_suc xs k)

pub sum_up : (xs : List ℕ) (i j : ℕ) → i ≤ j → sum_to xs i ≤ sum_to xs j
sum_up = along_rises (λ a. a)

-- ---- spread segments

pub spread_length : (us xs : List ℕ) → length xs ≡ length us → length (spread us xs) ≡ sum_to us (length us)
unfolding spread along
spread_length [] xs e = refl
spread_length (u ∷ us) [] e = absurd (omega arith)
spread_length (u ∷ us) (x ∷ xs) e = simp (length-append, length-replicate) (omega (arith, spread_length us xs (omega arith)))

-- the amount of a unit is that of its segment
spread_at : (us xs : List ℕ) → length xs ≡ length us → (j k : ℕ) → k < get_or us j 0 → get_or (spread us xs) (sum_to us j + k) 0 ≡ get_or xs j 0
unfolding spread along
spread_at [] xs e j k h = absurd (omega arith)
spread_at (u ∷ us) [] e j k h = absurd (omega arith)
spread_at (u ∷ us) (x ∷ xs) e zero k h =
    let q : 0 + k ≡ k = omega arith in
    let l = length-replicate u x in
    rw q (get_or-append (replicate u x) (spread us xs) 0 k (omega arith) ∙ get_or-replicate u k x 0 h)
spread_at (u ∷ us) (x ∷ xs) e (suc j) k h =
    let l = length-replicate u x in
    let q : u + sum_to us j + k ≡ length (replicate u x) + (sum_to us j + k) = omega arith in
    rw q (get_or-append-add (replicate u x) (spread us xs) (sum_to us j + k) 0 ∙ spread_at us xs (omega arith) j k h)

-- k units of segment j add k times its amount
segment_sum : (us xs : List ℕ) → length xs ≡ length us → (j k : ℕ) → k ≤ get_or us j 0
    → sum_to (spread us xs) (sum_to us j + k) ≡ sum_to (spread us xs) (sum_to us j) + k * get_or xs j 0
segment_sum us xs e j zero h = ap (sum_to (spread us xs)) {x = sum_to us j + 0} {y = sum_to us j} (omega arith) ∙ omega arith
segment_sum us xs e j (suc k) h =
    let q : sum_to us j + suc k ≡ suc (sum_to us j + k) = omega arith in
    rw q (omega (arith, sum_suc (spread us xs) (sum_to us j + k), spread_at us xs e j k h, segment_sum us xs e j k (omega arith)))

-- the total over all units, segment by segment
pub total_sum : (us xs : List ℕ) → length xs ≡ length us → sum_to (spread us xs) (length (spread us xs)) ≡ sum_to (spread us xs) (sum_to us (length us))
total_sum us xs e = ap (sum_to (spread us xs)) (spread_length us xs e)

-- one segment more
pub segment_suc : (us xs : List ℕ) → length xs ≡ length us → (j : ℕ)
    → sum_to (spread us xs) (sum_to us (suc j)) ≡ sum_to (spread us xs) (sum_to us j) + get_or us j 0 * get_or xs j 0
segment_suc us xs e j = rw (sum_suc us j) (segment_sum us xs e j (get_or us j 0) (omega arith))

pub first_sum : (us xs : List ℕ) → sum_to (spread us xs) (sum_to us 0) ≡ 0
first_sum us xs = rw (sum_zero us) (sum_zero (spread us xs))

-- ---- segments that have units

-- each segment has a unit unless the list has a 0
pub none_empty : (us : List ℕ) → not (list_any (λ u. nat_eq u 0) us) ≡ all_have us
unfolding all_have
none_empty [] = refl
none_empty (zero ∷ us) = refl
none_empty (suc u ∷ us) = rw (ne_eqb (suc u) 0 (λ e. absurd (omega arith)), lt-ltb 0 (suc u) (omega arith)) (none_empty us)

have_each : (us : List ℕ) → all_have us ≡ true → (j : ℕ) → j < length us → 0 < get_or us j 0
unfolding all_have
have_each [] e j h = absurd (omega arith)
have_each (u ∷ us) e zero h = ltb-true 0 u ((and-eq-true_iff (ltb 0 u) (all_have us)).0 e).0
have_each (u ∷ us) e (suc j) h = have_each us ((and-eq-true_iff (ltb 0 u) (all_have us)).0 e).1 j (omega arith)

-- there are no more segments than units
pub segments_few : (us : List ℕ) → all_have us ≡ true → length us ≤ sum_to us (length us)
unfolding all_have along
segments_few [] e = omega arith
segments_few (u ∷ us) e =
    let h = (and-eq-true_iff (ltb 0 u) (all_have us)).0 e in
    omega (arith, ltb-true 0 u h.0, segments_few us h.1)

-- ---- segments of one unit each

pub spread_ones : (n : ℕ) (xs : List ℕ) → length xs ≡ n → spread (replicate n 1) xs ≡ xs
unfolding spread
spread_ones zero [] e = refl
spread_ones zero (x ∷ xs) e = absurd (omega arith)
spread_ones (suc n) [] e = absurd (omega arith)
spread_ones (suc n) (x ∷ xs) e = ap (λ (r : List ℕ). x ∷ r) (spread_ones n xs (omega arith))

pub have_ones : (n : ℕ) → all_have (replicate n 1) ≡ true
unfolding all_have
have_ones zero = refl
have_ones (suc n) = have_ones n

pub sum_ones : (n k : ℕ) → k ≤ n → sum_to (replicate n 1) k ≡ k
unfolding along
sum_ones zero k h = omega arith
sum_ones (suc n) zero h = refl
sum_ones (suc n) (suc k) h = omega (arith, sum_ones n k (omega arith))

-- ---- segments that fit

-- as many values are spread as costs
same_spread : (us cs vs : List ℕ) → length cs ≡ length us → length vs ≡ length us → length (spread us vs) ≡ length (spread us cs)
same_spread us cs vs lc lv = spread_length us vs lv ∙ sym (spread_length us cs lc)

pub fits↔ : (us cs vs : List ℕ) → (fits us cs vs ≡ true) ↔ Fit us cs vs
unfolding fits
fits↔ us cs vs = (
  λ e.
      let f = (and-eq-true_iff _ _).0 e in
      let g = (and-eq-true_iff _ _).0 f.0 in
      let h = (and-eq-true_iff _ _).0 g.0 in
      let i = (and-eq-true_iff _ (all_have us)).0 h.0 in
      let j = (and-eq-true_iff _ _).0 i.0 in
      let lc = eqb-true _ _ j.0 in
      let lv = eqb-true _ _ j.1 in
      record {
        costs = lc;
        values = lv;
        have = i.1;
        units_fit = ltb-true _ _ h.1;
        cost_fits = ltb-true _ _ g.1;
        value_fits = rw (← same_spread us cs vs lc lv) (ltb-true _ _ f.1);
      },
  λ f.
      rw (eq-eqb _ _ f.costs, eq-eqb _ _ f.values, f.have, lt-ltb _ _ f.units_fit, lt-ltb _ _ f.cost_fits, same_spread us cs vs f.costs f.values)
      (lt-ltb _ _ f.value_fits),
)

pub units_total : (us cs vs : List ℕ) → Fit us cs vs → sum_to us (length us) < 2 ^ 16
units_total us cs vs f = rw (← spread_length us cs f.costs) f.units_fit

pub value_total : (us cs vs : List ℕ) → Fit us cs vs → sum_to (spread us vs) (length (spread us vs)) < 2 ^ 32
value_total us cs vs f = rw (same_spread us cs vs f.costs f.values) f.value_fits

-- a test that cannot hold
pub not_so : (b : Bool) → (b ≡ true → ⊥) → b ≡ false
not_so true n = absurd (n refl)
not_so false n = refl

pub unfit : (us cs vs : List ℕ) → (Fit us cs vs → ⊥) → fits us cs vs ≡ false
unfit us cs vs n = not_so (fits us cs vs) (λ e. n ((fits↔ us cs vs).0 e))

-- the totals, where every test is passed
pub known : (us cs vs : List ℕ) (t : Totals) → length cs ≡ length us → length vs ≡ length us → all_have us ≡ true
    → t.units ≡ sum_to us (length us) → t.units < 2 ^ 16
    → t.cost ≡ sum_to (spread us cs) (length (spread us cs)) → t.cost < 2 ^ 32
    → t.value ≡ sum_to (spread us vs) (length (spread us vs)) → t.value < 2 ^ 32 → Known us cs vs t
known us cs vs t lc lv have n nf x xf y yf =
    let l = spread_length us cs lc in
    let e : sum_to (spread us vs) (length (spread us vs)) ≡ sum_to (spread us vs) (length (spread us cs)) =
    ap (sum_to (spread us vs)) (same_spread us cs vs lc lv) in
    record {
      fit = record { costs = lc; values = lv; have = have; units_fit = omega arith; cost_fits = omega arith; value_fits = omega arith };
      units_are = omega arith;
      cost_is = omega arith;
      value_is = omega arith;
    }

-- ---- the cursor

pub at_origin : (us cs vs : List ℕ) → Fit us cs vs → At us cs vs origin
at_origin us cs vs f =
    record {
      place_is = omega (arith, sum_zero us);
      within = omega arith;
      left = λ h. have_each us f.have 0 (more h (dec_le (length us) 0));
      cost_is = sym (sum_zero (spread us cs));
      value_is = sym (sum_zero (spread us vs));
    }
  where
    more : 0 < length (spread us cs) → Dec (length us ≤ 0) → 0 < length us
    more h (yes k) = absurd (omega (arith, spread_length us cs f.costs, sum_up us (length us) 0 k, sum_zero us))
    more h (no k) = omega arith

pub opened : (us cs vs : List ℕ) (t : Totals) → Known us cs vs t → (c : Cursor) → At us cs vs c → c.place < t.units → Open us cs vs c
opened us cs vs t k c a h = record { fit = k.fit; at = a; more = omega (arith, k.units_are) }

module _ (us cs vs : List ℕ) (c : Cursor) (o : Open us cs vs c) where
  pub in_units : c.segment < length us
  in_units = inside (dec_le (length us) c.segment) (o.at.left o.more)
    where
      inside : Dec (length us ≤ c.segment) → c.used < get_or us c.segment 0 → c.segment < length us
      inside (yes k) l = let e : get_or us c.segment 0 ≡ 0 = get_or-eq_default us 0 {n = c.segment} k in absurd (omega arith)
      inside (no k) l = omega arith

  -- k units of the cursor's segment on
  module _ (k : ℕ) (h : c.used + k ≤ get_or us c.segment 0) where
    pub place_on : c.place + k ≤ length (spread us cs)
    place_on =
        omega (arith, o.at.place_is, sum_suc us c.segment, sum_up us (suc c.segment) (length us) in_units, spread_length us cs o.fit.costs)

    amount_on : (xs : List ℕ) → length xs ≡ length us
        → sum_to (spread us xs) c.place + k * get_or xs c.segment 0 ≡ sum_to (spread us xs) (c.place + k)
    amount_on xs e =
        let p : c.place + k ≡ sum_to us c.segment + (c.used + k) = omega (arith, o.at.place_is) in
        rw (p, o.at.place_is)
        (omega (arith, segment_sum us xs e c.segment c.used (omega arith), segment_sum us xs e c.segment (c.used + k) h))

    pub cost_on : c.cost + k * get_or cs c.segment 0 ≡ sum_to (spread us cs) (c.place + k)
    cost_on = rw o.at.cost_is (amount_on cs o.fit.costs)

    pub value_on : c.value + k * get_or vs c.segment 0 ≡ sum_to (spread us vs) (c.place + k)
    value_on = rw o.at.value_is (amount_on vs o.fit.values)

    pub cost_fits : c.cost + k * get_or cs c.segment 0 < 2 ^ 32
    cost_fits = omega (arith, cost_on, sum_up (spread us cs) (c.place + k) (length (spread us cs)) place_on, o.fit.cost_fits)

    pub value_fits : c.value + k * get_or vs c.segment 0 < 2 ^ 32
    value_fits = omega (arith, value_on, sum_up (spread us vs) (c.place + k) (length (spread us cs)) place_on, o.fit.value_fits)

    -- the cost and the value of the cursor there
    module _ (to : Cursor) (m : There us cs vs to (c.place + k)) where
      pub cost_there : to.cost ≡ c.cost + k * get_or cs c.segment 0
      cost_there = m.at.cost_is ∙ ap (sum_to (spread us cs)) m.place_is ∙ sym cost_on

      pub value_there : to.value ≡ c.value + k * get_or vs c.segment 0
      value_there = m.at.value_is ∙ ap (sum_to (spread us vs)) m.place_is ∙ sym value_on

    -- the cursor there, in the same segment
    pub same_segment : c.used + k < get_or us c.segment 0
        → There us cs vs
        (record {
          place = c.place + k;
          segment = c.segment;
          used = c.used + k;
          cost = c.cost + k * get_or cs c.segment 0;
          value = c.value + k * get_or vs c.segment 0;
        })
        (c.place + k)
    same_segment l =
        record {
          at =
              record {
                place_is = omega (arith, o.at.place_is);
                within = place_on;
                left = λ _. l;
                cost_is = cost_on;
                value_is = value_on;
              };
          place_is = refl;
        }

    -- the cursor there, in the next segment
    pub next_segment : get_or us c.segment 0 ≤ c.used + k
        → There us cs vs
        (record {
          place = c.place + k;
          segment = c.segment + 1;
          used = 0;
          cost = c.cost + k * get_or cs c.segment 0;
          value = c.value + k * get_or vs c.segment 0;
        })
        (c.place + k)
    next_segment l =
        let e : c.place + k ≡ sum_to us (suc c.segment) = omega (arith, o.at.place_is, sum_suc us c.segment) in
        record {
          at =
              record {
                place_is = rw (add-one c.segment) (omega arith);
                within = place_on;
                left = λ m. rw (add-one c.segment) (have_each us o.fit.have (suc c.segment) (more (dec_le (length us) (suc c.segment)) e m));
                cost_is = cost_on;
                value_is = value_on;
              };
          place_is = refl;
        }
      where
        more : Dec (length us ≤ suc c.segment) → c.place + k ≡ sum_to us (suc c.segment) → c.place + k < length (spread us cs)
            → suc c.segment < length us
        more (yes q) e m = absurd (omega (arith, spread_length us cs o.fit.costs, sum_up us (length us) (suc c.segment) q))
        more (no q) e m = omega arith
