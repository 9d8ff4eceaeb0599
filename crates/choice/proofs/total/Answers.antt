use mathlib.Core.Path.{refl}
use native.Mathlib.Omega.{arith}
use Rattle.exchange.specs.Chosen.{at}
use Rattle.exchange.specs.Choice.{sum_over, all_items}
use Rattle.choice.proofs.ItemLaws.{total_next}
use Rattle.choice.proofs.total.Goals as goal

pub loop-j-init : goal.loop-j-init
unfolding sum_over all_items
loop-j-init c = (refl, omega arith)

pub loop-j-preserved : goal.loop-j-preserved
loop-j-preserved c = (omega (arith, total_next c.args.units.now (at c.args.amounts.now) c.loop-j.j, c.loop-j.invariant.0, c.block-sum.ensures.0), omega (arith, c.block-sum.ensures.1))
