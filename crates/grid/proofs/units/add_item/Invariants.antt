use Rattle.grid.specs.Adding.{Added}
use Rattle.grid.proofs.units.add_item.Given as goal

abbrev pub invariant-loop-r : goal.invariant-loop-r
invariant-loop-r l = Added l.stride l.one l.initial.held l.held l.r
