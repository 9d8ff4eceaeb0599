use Rattle.search.specs.Layers.{need_read}
use Rattle.search.proofs.WalkLaws.{Looking}
use Rattle.search.proofs.rows.Rows.next_row.Given as goal

abbrev pub invariant-loop-b : goal.invariant-loop-b
invariant-loop-b l = Looking l.self.held.now l.self.floors.now (need_read l.notes.reached l.notes.firsts l.self.floors.now l.j) l.cap l.a l.paid l.self.terms.rows l.b
