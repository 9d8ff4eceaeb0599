use Rattle.std.proofs.Common.{◌≡◌}
use Rattle.search.proofs.CountLaws.{Progress}
use Rattle.search.proofs.rows.Rows.count_steps.Given as goal

abbrev pub invariant-loop-searched : goal.invariant-loop-searched
invariant-loop-searched l = (l.v.step ≡ l.searched) × Progress l.self.units.now l.self.held.now l.self.caps.now l.self.floors.now l.list l.initial.notes l.notes l.v
