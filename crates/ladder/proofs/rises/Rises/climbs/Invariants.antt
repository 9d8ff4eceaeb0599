use Prim.Native.Nat.{◌-◌}
use Rattle.ladder.proofs.PlanLaws.{Clear}
use Rattle.ladder.proofs.rises.Rises.climbs.Given as goal

abbrev pub invariant-loop-c : goal.invariant-loop-c
invariant-loop-c l = Clear l.self.ladder l.self.bytes.now l.c

abbrev pub decreases-loop-c : goal.decreases-loop-c
decreases-loop-c l = l.self.ladder.all.units - l.c.place
