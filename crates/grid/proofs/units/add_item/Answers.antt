use native.Mathlib.Omega.{arith}
use Rattle.grid.proofs.UnitLaws.{added_start, added_fits, added_turn}
use Rattle.grid.proofs.units.add_item.Goals as goal

pub loop-r-init : goal.loop-r-init
loop-r-init c = added_start c.requires

pub overflow_add-held : goal.overflow_add-held
overflow_add-held c = omega (arith, added_fits c.requires c.loop-r.invariant c.loop-r.auto.r c.loop-r-test.true)

pub loop-r-preserved : goal.loop-r-preserved
loop-r-preserved c = added_turn c.requires c.loop-r.invariant c.loop-r.auto.r c.loop-r-test.true
