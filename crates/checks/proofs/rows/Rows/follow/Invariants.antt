use Rattle.checks.proofs.RowLaws.{Passed}
use Rattle.checks.proofs.rows.Rows.follow.Given as goal

abbrev pub invariant-loop-i : goal.invariant-loop-i
invariant-loop-i l = Passed l.self.terms l.self.table l.plan l.row l.paid l.i
