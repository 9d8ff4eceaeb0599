use Prim.Native.Nat.{◌-◌}
use Rattle.line.specs.Code.{Reached}
use Rattle.line.proofs.segments.SegmentsLine.deliver.Given as goal

abbrev pub invariant-loop-c : goal.invariant-loop-c
invariant-loop-c l = Reached l.self.sides l.self.units.now l.self.costs.now l.self.values.now l.paid l.c

abbrev pub decreases-loop-c : goal.decreases-loop-c
decreases-loop-c l = l.self.all.units - l.c.place
