use Rattle.line.proofs.CheckLaws.{Passed}
use Rattle.line.proofs.check_line.Given as goal

abbrev pub invariant-loop-i : goal.invariant-loop-i
invariant-loop-i g l = let x = g.L.Line.course l.line in Passed x.sides x.units x.costs x.values l.count l.places l.sums l.c l.paid l.i
