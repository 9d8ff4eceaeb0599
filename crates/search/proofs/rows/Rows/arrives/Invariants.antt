use Rattle.search.specs.Layers.{front, Arrival}
use Rattle.search.proofs.rows.Rows.arrives.Given as goal

abbrev pub invariant-loop-i : goal.invariant-loop-i
invariant-loop-i l = Arrival l.self.caps.now (front l.self.floors.now l.notes l.v) l.i → ⊥
