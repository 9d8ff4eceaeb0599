-- `line::segments::units_in` meets its contract, by the laws of division. Assumes nothing.
use Prim.Native.Nat.{ℕ, zero, suc, ◌*◌, ◌/◌, ◌<◌}
use native.Mathlib.Nat.{div-lt_iff_lt-mul, div-mul-le_self, lt-div-mul-add, le_of_lt}
use native.Mathlib.Omega.{arith}
use Rattle.line.proofs.segments.units_in.Goals as goal

-- n units make more than the limit
module _ (limit value n : ℕ) (h : limit < n * value) where
  some_value : 0 < value
  some_value = go value h
    where
      go : (v : ℕ) → limit < n * v → 0 < v
      go zero l = absurd (omega arith)
      go (suc v) l = omega arith

  fewer : limit / value < n
  fewer = (div-lt_iff_lt-mul {k = value} {x = limit} {y = n} some_value).1 h

pub nonzero_div-result : goal.nonzero_div-result
nonzero_div-result c = rw c.from-each.ensures (some_value c.args.limit c.args.value c.args.n (omega (arith, c.amount.ensures.0)))

pub overflow_cast-result : goal.overflow_cast-result
overflow_cast-result c =
    let l = fewer c.args.limit c.args.value c.args.n (omega (arith, c.amount.ensures.0)) in
    rw c.from-each.ensures (record { fits = omega arith })

pub returns : goal.returns
returns c =
    let more : c.args.limit < c.args.n * c.args.value = omega (arith, c.amount.ensures.0) in
    rw c.from-each.ensures
    (record {
      within = le_of_lt (fewer c.args.limit c.args.value c.args.n more);
      enough = div-mul-le_self c.args.limit c.args.value;
      most = λ _. omega (arith, lt-div-mul-add {a = c.args.limit} {b = c.args.value} (some_value c.args.limit c.args.value c.args.n more));
    })
