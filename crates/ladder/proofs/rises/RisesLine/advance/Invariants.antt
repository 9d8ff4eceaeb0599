use Prim.Native.Nat.{◌-◌, ◌≤◌}
use Rattle.ladder.specs.Code.{At}
use Rattle.ladder.proofs.rises.RisesLine.advance.Given as goal

abbrev pub invariant-loop-c : goal.invariant-loop-c
invariant-loop-c l = At l.self.ladder l.self.bytes.now l.c × (l.c.place ≤ l.place)

abbrev pub decreases-loop-c : goal.decreases-loop-c
decreases-loop-c l = l.place - l.c.place
