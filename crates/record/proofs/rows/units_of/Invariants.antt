use lib.ListN.{replicate}
use Rattle.record.specs.View.Spaced.{Filling}
use Rattle.record.proofs.rows.units_of.Given as goal

abbrev pub invariant-loop-k : goal.invariant-loop-k
invariant-loop-k l = Filling 1 l.s l.at l.step l.k (replicate 8 0) l.units
