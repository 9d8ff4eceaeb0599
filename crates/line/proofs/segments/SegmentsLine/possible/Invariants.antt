use Prim.Native.Nat.{◌-◌}
use Rattle.line.proofs.DealLaws.{Clear}
use Rattle.line.proofs.segments.SegmentsLine.possible.Given as goal

abbrev pub invariant-loop-c : goal.invariant-loop-c
invariant-loop-c l = Clear l.self.sides l.self.units.now l.self.costs.now l.self.values.now l.c

abbrev pub decreases-loop-c : goal.decreases-loop-c
decreases-loop-c l = l.self.all.units - l.c.place
