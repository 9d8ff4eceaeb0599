use Rattle.grid.proofs.BelowLaws.{Striding}
use Rattle.grid.proofs.below.strides_of.Given as goal

abbrev pub invariant-loop-i : goal.invariant-loop-i
invariant-loop-i l = Striding l.units l.strides l.i
