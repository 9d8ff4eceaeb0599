use Prim.Native.Nat.{◌-◌}
use Rattle.line.specs.Course.{Reached}
use Rattle.ladder.specs.Code.{course_of, cursor_of}
use Rattle.ladder.proofs.rises.RisesLine.deliver.Given as goal

abbrev pub invariant-loop-c : goal.invariant-loop-c
invariant-loop-c l = Reached (course_of l.self.ladder l.self.bytes.now) l.paid (cursor_of l.c)

abbrev pub decreases-loop-c : goal.decreases-loop-c
decreases-loop-c l = l.self.ladder.all.units - l.c.place
