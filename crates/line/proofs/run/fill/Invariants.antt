use Prim.Native.Nat.{◌+◌, ◌*◌, ◌-◌}
use lib.ListN.{length}
use Rattle.line.specs.Segments.{spread}
use Rattle.line.proofs.RunLaws.{Going}
use Rattle.line.proofs.run.fill.Given as goal

abbrev pub invariant-loop-sides : goal.invariant-loop-sides
invariant-loop-sides g l =
    let x = g.L.Line.course l.line in
    Going x.sides x.units x.costs x.values (record { place = l.initial.c.place; paid = l.initial.paid }) l.at l.initial.places l.initial.sums l.places l.sums l.c l.paid l.n

abbrev pub decreases-loop-sides : goal.decreases-loop-sides
decreases-loop-sides g l = let x = g.L.Line.course l.line in 2 * length (spread x.units x.costs) + 1 - l.n
