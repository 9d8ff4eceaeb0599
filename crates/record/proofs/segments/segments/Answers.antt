use mathlib.Core.Path.{sym, ◌∙◌}
use native.Mathlib.Omega.{arith}
use Rattle.contract.specs.Segments.{size}
use Rattle.record.proofs.Laws.{got, lost, stopped}
use Rattle.record.proofs.SegmentLaws.{segments_next, segments_stop, segments_end, bytes_next, bytes_end}
use Rattle.record.proofs.segments.segments.Invariants.{priced}
use Rattle.record.proofs.segments.segments.Goals as goal

pub returns-in_err-d : goal.returns-in_err-d
returns-in_err-d g c = stopped _ (sym c.loop-k.invariant.0 ∙ segments_stop _ _ _ _ _ c.loop-k-test.true (lost c.in_err-d.ensures)) c.from_residual.ensures.1

pub loop-k-preserved : goal.loop-k-preserved
loop-k-preserved g c =
    let m = c.in_ok-d.ensures.known in
    let l = bytes_next c.args.n c.loop-k._k (size (priced g)) c.loop-k-test.true in
    (sym (segments_next _ _ _ _ _ _ c.loop-k-test.true (got c.in_ok-d.ensures)) ∙ c.loop-k.invariant.0, (omega (arith, m.at), (m.within, m.kept)))

pub returns : goal.returns
returns g c =
    let i = c.loop-k.invariant in
    record {
      meets = sym (segments_end _ _ _ _ _ c.loop-k-test.false) ∙ i.0;
      known =
          record { at = omega (arith, bytes_end c.args.n c.loop-k._k (size (priced g)) c.loop-k-test.false); within = i.1.1.0; kept = i.1.1.1 };
    }
