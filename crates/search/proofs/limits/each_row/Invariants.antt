use Rattle.search.specs.Layers.{Each}
use Rattle.search.proofs.limits.each_row.Given as goal

abbrev pub invariant-loop-a : goal.invariant-loop-a
invariant-loop-a g l = Each (goal.F-post g l.limit) l.cells l.limits l.a
