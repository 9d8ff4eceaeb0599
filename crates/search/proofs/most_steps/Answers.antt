use mathlib.Core.Path.{◌≡◌, sym, ◌∙◌}
use Prim.Native.Nat.{ℕ, ◌+◌, ◌*◌, ◌≤◌, ◌<◌}
use native.Mathlib.Nat.{mul-le-mul_right}
use native.Mathlib.Omega.{arith}
use Rattle.exchange.specs.Search.{most_steps}
use Rattle.search.proofs.SuitLaws.{units_fit, units_sum, most_none, most_some, rows_fit, rows_many}
use Rattle.search.proofs.most_steps.Goals.{then-rows-lt2-via-then-rows-lt2, then-rows-lt2-via-else-rows-lt2+then-costs-rows, then-rows-lt2-via-else-rows-lt2+else-costs-rows+then-values-rows}
use Rattle.search.proofs.most_steps.Goals.{then-count-most-via-then-count-most, then-count-most-via-else-count-most+then-count-most-2}
use Rattle.search.proofs.most_steps.Goals as goal

too_short : {m n : ℕ} → m ≤ n → n < m → ⊥
too_short h k = omega arith

pub returns-in_err-rows : goal.returns-in_err-rows
returns-in_err-rows c =
    let x = c.args in
    c.from_residual.ensures ∙ most_none x.units.now x.costs.now x.values.now x.places.now x.sums.now x.work.now (λ s. rows_many x.units.now c.in_err-rows.ensures s.few)

pub returns-then-rows-lt2 : goal.returns-then-rows-lt2
returns-then-rows-lt2 c =
    let x = c.args in
    let us = x.units.now in
    let r = rows_fit us c.in_ok-rows.ensures in
    most_none us x.costs.now x.values.now x.places.now x.sums.now x.work.now
    (λ s. elim c.then-rows-lt2.branch [
      | then-rows-lt2-via-then-rows-lt2 w ↦ omega (arith, s.some, r.0, w.if-rows-lt2.true)
      | then-rows-lt2-via-else-rows-lt2+then-costs-rows w ↦ w.if-costs-rows.true (s.costs_all ∙ sym r.0)
      | then-rows-lt2-via-else-rows-lt2+else-costs-rows+then-values-rows w ↦ w.if-values-rows.true (s.values_all ∙ sym r.0)
    ])

pub total-requires : goal.total-requires
total-requires c = units_fit _ (rows_fit _ c.in_ok-rows.ensures).1

pub overflow_mul-most : goal.overflow_mul-most
overflow_mul-most c = omega (arith, c.total.ensures, units_fit _ (rows_fit _ c.in_ok-rows.ensures).1)

pub overflow_add-most : goal.overflow_add-most
overflow_add-most c = omega (arith, c.total.ensures, units_fit _ (rows_fit _ c.in_ok-rows.ensures).1)

pub returns-then-count-most : goal.returns-then-count-most
returns-then-count-most c =
    let x = c.args in
    let f : 2 * c.total.result + 1 ≡ most_steps x.units.now = rw (c.total.ensures, units_sum x.units.now) in
    most_none x.units.now x.costs.now x.values.now x.places.now x.sums.now x.work.now
    (λ s. elim c.then-count-most.branch [
      | then-count-most-via-then-count-most w ↦ omega (arith, s.places_room, f, c.count.ensures, w.if-count-most.true)
      | then-count-most-via-else-count-most+then-count-most-2 w ↦ omega (arith, s.sums_room, f, w.count-else-count-most.ensures, w.if-count-most-2.true)
    ])

pub overflow_add-most-2 : goal.overflow_add-most-2
overflow_add-most-2 c = omega (arith, c.total.ensures, units_fit _ (rows_fit _ c.in_ok-rows.ensures).1)

pub overflow_mul-rows : goal.overflow_mul-rows
overflow_mul-rows c =
    let s = c.total in
    let few = rows_fit _ c.in_ok-rows.ensures in
    let m : c.in_ok-rows.rows * (2 * s.result + 1 + 1) ≤ 128 * (2 * s.result + 1 + 1) = mul-le-mul_right (2 * s.result + 1 + 1) (rw few.0 few.1) in
    omega (arith, m, s.ensures, units_fit _ few.1)

pub returns-then-work-rows : goal.returns-then-work-rows
returns-then-work-rows c =
    let x = c.args in
    let r = (rows_fit x.units.now c.in_ok-rows.ensures).0 in
    let f : 2 * c.total.result + 1 ≡ most_steps x.units.now = rw (c.total.ensures, units_sum x.units.now) in
    most_none x.units.now x.costs.now x.values.now x.places.now x.sums.now x.work.now (λ s. too_short (rw (← r, ← f) at s.work_room) c.if-work-rows.true)

pub returns : goal.returns
returns c =
    let x = c.args in
    let s = c.total in
    let few = rows_fit x.units.now c.in_ok-rows.ensures in
    let r = few.0 in
    let f : 2 * s.result + 1 ≡ most_steps x.units.now = rw (s.ensures, units_sum x.units.now) in
    most_some x.units.now x.costs.now x.values.now x.places.now x.sums.now x.work.now _ f
    (record {
      some = rw (← r) c.if-rows-lt2.false;
      few = few.1;
      costs_all = c.if-costs-rows.false ∙ r;
      values_all = c.if-values-rows.false ∙ r;
      places_room = rw (← f, ← c.count.ensures) c.if-count-most.false;
      sums_room = rw (← f, ← c.count-else-count-most.ensures) c.if-count-most-2.false;
      work_room = rw (← r, ← f) c.if-work-rows.false;
    })
