use mathlib.Core.Path.{refl}
use native.Mathlib.Omega.{arith}
use Rattle.area.specs.Entries.{entries}
use Rattle.grid.specs.Rise.{all_rows, not_below}
use Rattle.grid.proofs.RiseLaws.{all_turn}
use Rattle.grid.proofs.rise.run_rises.Goals as goal

pub loop-r-init : goal.loop-r-init
unfolding all_rows
loop-r-init c = (omega arith, refl)

pub loop-r-preserved : goal.loop-r-preserved
loop-r-preserved c =
    (omega arith, all_turn (not_below 1 (entries 4 c.args.given.now)) 1 c.loop-r.r c.loop-r.rises c.loop-r.auto.r c.loop-r.invariant.1 (rw (c.known.ensures, c.known-in-loop-r.ensures)))
