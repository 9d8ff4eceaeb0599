use Rattle.record.specs.View.Spaced.{Filling}
use Prim.Native.Nat.{◌+◌}
use Rattle.record.proofs.segments.fill.Given as goal

abbrev pub invariant-loop-k : goal.invariant-loop-k
invariant-loop-k l = Filling 4 l.s l.at l.step l.k l.initial.costs l.costs × Filling 4 l.s (l.at + 4) l.step l.k l.initial.values l.values
