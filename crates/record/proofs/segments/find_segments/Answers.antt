use mathlib.Core.Path.{◌∙◌}
use native.Mathlib.Omega.{arith}
use borrow.Author.Tests.{eq-eqb, ne_eqb}
use Rattle.record.specs.View.Segments.{found}
use Rattle.record.proofs.Laws.{got, stop}
use Rattle.record.proofs.SegmentLaws.{count_ranged}
use Rattle.record.proofs.segments.find_segments.Goals as goal

pub returns-in_err-n : goal.returns-in_err-n
unfolding found
returns-in_err-n g c = rw count_ranged (stop _ c.in_err-n.ensures c.from_residual.ensures.1)

pub returns-in_err-d : goal.returns-in_err-d
unfolding found
returns-in_err-d g c = rw (count_ranged, got c.in_ok-n.ensures) (stop _ c.in_err-d.ensures c.from_residual-in_err-d.ensures.1)

pub returns-then-d-s : goal.returns-then-d-s
unfolding found
returns-then-d-s g c =
    record { meets = simp (count_ranged _ c.args.s.now c.args.at ∙ got c.in_ok-n.ensures, got c.in_ok-d.ensures, ne_eqb _ _ c.if-d-s.true); known = tt }

pub returns : goal.returns
unfolding found
returns g c =
    let m = c.in_ok-d.ensures.known in
    record {
      meets = simp (count_ranged _ c.args.s.now c.args.at ∙ got c.in_ok-n.ensures, got c.in_ok-d.ensures, eq-eqb _ _ c.if-d-s.false);
      known = record { ends = omega (arith, m.at); few = c.in_ok-n.ensures.known.1; cost = m.kept.cost; value = m.kept.value };
    }
