-- A ladder whose units all lie within the record: the totals decide. Assumes nothing.
use mathlib.Core.Path.{◌≡◌, refl, ◌∙◌}
use mathlib.Core.Bool.{Bool, true, false}
use mathlib.Core.List.{List}
use Prim.Native.Nat.{ℕ, zero, suc, ◌+◌, ◌-◌, ◌*◌, ◌≤◌, ◌<◌}
use native.Mathlib.Nat.{add_assoc, one-mul}
use native.Mathlib.Decide.{dec_lt}
use native.Mathlib.Omega.{arith}
use lib.Dec.{leb}
use lib.ListN.{length}
use borrow.Author.Tests.{le-leb, lt-leb}
use Rattle.area.specs.Entries.{num}
use Rattle.contract.specs.Res.{Res, refused, ok, test}
use Rattle.contract.specs.Contract.{limit}
use Rattle.contract.specs.Field.{amount}
use Rattle.contract.specs.Segments.{Sums, cost_value, segment, segments}
use Rattle.record.specs.View.Segments.{Reached, Whole, lifted}
use Rattle.record.proofs.Laws.{field_ok, one_more, none_left}

-- ---- an amount that lies within the record

refused_either : {A : Type 0} (b : Bool) → test {A = A} 4 b (refused 4) ≡ refused 4
refused_either true = refl
refused_either false = refl

module _ (s : List ℕ) (t i : ℕ) (h : i + 4 ≤ length s) where
  amount_one : t + num 4 s i ≤ limit → amount s 1 t i ≡ ok (record { value = t + num 4 s i; next = i + 4 })
  unfolding amount
  amount_one l = simp (field_ok 4 s i h, one-mul, le-leb (num 4 s i) limit (omega arith), le-leb _ _ l)

  amount_over : limit < t + num 4 s i → amount s 1 t i ≡ refused 4
  unfolding amount
  amount_over l = simp (field_ok 4 s i h, one-mul, lt-leb _ _ l, refused_either)

-- ---- the totals

-- the totals after n units, from those before
record Lifts (n : ℕ) (c d : Sums) : Type 0 where
  at : d.at ≡ c.at + n * 8
  units : d.units ≡ c.units
  cost : c.cost ≤ d.cost
  value : c.value ≤ d.value

-- the totals after one unit
abbrev pub unit : List ℕ → Sums → Sums
unit s c = record { at = c.at + 8; units = c.units; cost = c.cost + num 4 s c.at; value = c.value + num 4 s (c.at + 4) }

lifts : (s : List ℕ) (n : ℕ) (c : Sums) → Lifts n c (lifted s n c)
unfolding lifted
lifts s zero c = record { at = omega arith; units = refl; cost = omega arith; value = omega arith }
lifts s (suc n) c =
    let r : Lifts n (unit s c) (lifted s n (unit s c)) = lifts s n (unit s c) in
    record { at = omega arith; units = r.units; cost = omega arith; value = omega arith }

-- one unit more, and none left
pub lifted_next : (s : List ℕ) (n k : ℕ) (c : Sums) → k < n → lifted s (n - k) c ≡ lifted s (n - (k + 1)) (unit s c)
unfolding lifted
lifted_next s n k c h = rw (one_more n k h)

pub lifted_end : (s : List ℕ) (n k : ℕ) (c : Sums) → n ≤ k → lifted s (n - k) c ≡ c
unfolding lifted
lifted_end s n k c h = rw none_left

-- n units are refused exactly if a total is above the limit
whole_ladder : (s : List ℕ) (n : ℕ) (c : Sums) → c.at + n * 8 ≤ length s → c.cost ≤ limit → c.value ≤ limit
    → segments false s n c ≡ test 4 (leb (lifted s n c).cost limit) (test 4 (leb (lifted s n c).value limit) (ok (lifted s n c)))
unfolding segments segment cost_value lifted
whole_ladder s zero c h a b = simp (le-leb _ _ a, le-leb _ _ b)
whole_ladder s (suc n) c h a b = go (dec_lt limit (c.cost + num 4 s c.at)) (dec_lt limit (c.value + num 4 s (c.at + 4))) (whole_ladder s n (unit s c))
  where
    d : Sums
    d = lifted s n (unit s c)

    r : Lifts n (unit s c) d
    r = lifts s n (unit s c)

    tested : Res Sums
    tested = test 4 (leb d.cost limit) (test 4 (leb d.value limit) (ok d))

    go : Dec (limit < c.cost + num 4 s c.at) → Dec (limit < c.value + num 4 s (c.at + 4))
        → (c.at + 8 + n * 8 ≤ length s → c.cost + num 4 s c.at ≤ limit → c.value + num 4 s (c.at + 4) ≤ limit → segments false s n (unit s c) ≡ tested)
        → segments false s (suc n) c ≡ tested
    go (yes l) _ rest = simp (amount_over s c.cost c.at (omega arith) l, lt-leb d.cost limit (omega (arith, r.cost)))
    go (no l) (yes m) rest =
        simp (
          amount_one s c.cost c.at (omega arith) (omega arith),
          amount_over s c.value (c.at + 4) (omega arith) m,
          lt-leb d.value limit (omega (arith, r.value)),
          refused_either,
        )
    go (no l) (no m) rest =
        simp (amount_one s c.cost c.at (omega arith) (omega arith), amount_one s c.value (c.at + 4) (omega arith) (omega arith), add_assoc)
        (rest (omega arith) (omega arith) (omega arith))

-- what the totals d after n units decide
module _ {s : List ℕ} {n : ℕ} {c d : Sums} (w : Whole s n c) (e : d ≡ lifted s n c) where
  decided : segments false s n c ≡ test 4 (leb d.cost limit) (test 4 (leb d.value limit) (ok d))
  decided = rw e (whole_ladder s n c w.within w.kept.cost w.kept.value)

  pub cost_over : limit < d.cost → segments false s n c ≡ refused 4
  cost_over h = decided ∙ simp (lt-leb _ _ h)

  pub value_over : limit < d.value → segments false s n c ≡ refused 4
  value_over h = decided ∙ simp (lt-leb _ _ h, refused_either)

  pub both_kept : d.cost ≤ limit → d.value ≤ limit → segments false s n c ≡ ok d
  both_kept h g = decided ∙ simp (le-leb _ _ h, le-leb _ _ g)

  pub reached : d.cost ≤ limit → d.value ≤ limit → Reached s (c.at + n * 8) d
  reached h g =
      let r : Lifts n c d = rw e (lifts s n c) in
      record { at = r.at; within = omega (arith, w.within); kept = record { units = omega (arith, w.kept.units); cost = h; value = g } }
