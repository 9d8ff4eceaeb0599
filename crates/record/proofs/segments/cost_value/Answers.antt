use native.Mathlib.Omega.{arith}
use Rattle.contract.specs.Segments.{cost_value}
use Rattle.record.proofs.Laws.{got, stop}
use Rattle.record.proofs.segments.cost_value.Goals as goal

pub returns-in_err-cost : goal.returns-in_err-cost
unfolding cost_value
returns-in_err-cost c = stop _ c.in_err-cost.ensures c.from_residual.ensures.1

pub returns-in_err-value : goal.returns-in_err-value
unfolding cost_value
returns-in_err-value c = rw (got c.in_ok-cost.ensures) (stop _ c.in_err-value.ensures c.from_residual-in_err-value.ensures.1)

pub returns : goal.returns
unfolding cost_value
returns c =
    let a = c.in_ok-cost.ensures in
    let b = c.in_ok-value.ensures in
    record {
      meets = simp (got a, got b);
      known =
          record {
            at = omega (arith, a.known, b.known);
            within = b.known.0.1;
            kept = record { units = c.requires.1.units; cost = a.known.1; value = b.known.1 };
          };
    }
