use Rattle.grid.proofs.UnitLaws.{Packing}
use Rattle.grid.proofs.units.all_units.Given as goal

abbrev pub invariant-loop-j : goal.invariant-loop-j
invariant-loop-j l = Packing l.units l.held l.j l.stride l.one
