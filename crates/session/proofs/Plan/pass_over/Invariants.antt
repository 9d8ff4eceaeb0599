use mathlib.Core.Path.{◌≡◌}
use Prim.Native.Nat.{◌-◌}
use Rattle.session.specs.Code.{StandsAt, steps_of}
use Rattle.session.specs.Session.{at_step, settle}
use Rattle.session.proofs.Plan.pass_over.Given as goal

-- what is left to pass over comes to the same, and the plan stands where it stood
abbrev pub invariant-loop-i : goal.invariant-loop-i
invariant-loop-i l =
    (settle (steps_of l.self) (l.self.count - l.i) (at_step l.i) ≡ settle (steps_of l.self) (l.self.count - l.k) (at_step l.k))
    × StandsAt l.self l.i l.here
