use Rattle.search.specs.Layers.{rows_work}
use Rattle.search.proofs.WalkLaws.{Going}
use Rattle.search.proofs.rows.Rows.walk.Given as goal

abbrev pub invariant-loop-k : goal.invariant-loop-k
invariant-loop-k l = let r = l.self in Going (rows_work r.terms r.units.now r.caps.now r.floors.now) l.steps l.initial.places l.places l.initial.sums l.sums l.k l.a l.paid
