use mathlib.Core.Path.{refl}
use native.Mathlib.Numerals.{add-one}
use Rattle.exchange.specs.Choice.{best}
use Rattle.choice.proofs.order_end.OrderEnd.best.Goals.{then-takes, else-takes}
use Rattle.choice.proofs.order_end.OrderEnd.best.Goals as goal

pub loop-j-init : goal.loop-j-init
unfolding best
loop-j-init c = (tt, refl)

pub loop-j-preserved : goal.loop-j-preserved
unfolding best
loop-j-preserved c =
    elim c.if-takes.branch [
      | then-takes w ↦ rw w.best-is (c.loop-j-test.true, rw (add-one c.loop-j.j, ← c.loop-j.invariant.1, ← c.takes.ensures, w.if-takes.true) refl)
      | else-takes w ↦ rw w.best-is (c.loop-j.invariant.0, rw (add-one c.loop-j.j, ← c.loop-j.invariant.1, ← c.takes.ensures, w.if-takes.false) refl)
    ]
