use Prim.Native.Nat.{◌-◌}
use Rattle.line.specs.CheckCode.{Ahead}
use Rattle.line.proofs.segments.SegmentsLine.advance.Given as goal

abbrev pub invariant-loop-c : goal.invariant-loop-c
invariant-loop-c l = Ahead l.self.units.now l.self.costs.now l.self.values.now l.c l.place

abbrev pub decreases-loop-c : goal.decreases-loop-c
decreases-loop-c l = l.place - l.c.place
