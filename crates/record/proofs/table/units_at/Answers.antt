use mathlib.Core.Path.{sym, ◌∙◌}
use native.Mathlib.Omega.{arith}
use Rattle.record.proofs.Laws.{got, lost, stopped}
use Rattle.record.proofs.TableLaws.{units_next, units_stop, units_end}
use Rattle.record.proofs.table.units_at.Goals as goal

pub returns-in_err-i : goal.returns-in_err-i
returns-in_err-i c = stopped _ (sym c.loop-k.invariant.0 ∙ units_stop _ _ _ _ c.loop-k-test.true (lost c.in_err-i.ensures)) c.from_residual.ensures.1

pub loop-k-preserved : goal.loop-k-preserved
loop-k-preserved c =
    let m = c.in_ok-i.ensures.known in
    (sym (units_next _ _ _ _ _ c.loop-k-test.true (got c.in_ok-i.ensures)) ∙ c.loop-k.invariant.0, (omega (arith, m.0), m.0.1))

pub returns : goal.returns
returns c = record { meets = sym (units_end _ _ _ _ c.loop-k-test.false) ∙ c.loop-k.invariant.0; known = (omega arith, c.loop-k.invariant.1.1) }
