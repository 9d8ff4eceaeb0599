-- `line::opening::steps` meets its contract. Assumes nothing.
use native.Mathlib.Omega.{arith}
use Rattle.line.proofs.FirstLaws.{counted}
use Rattle.line.proofs.OpeningLaws.{sets_uncounted, few_steps}
use Rattle.line.proofs.opening.steps.Goals as goal

pub measure-n-requires : goal.measure-n-requires
measure-n-requires g c =
    let x = g.L.Line.course c.args.line.now in
    (c.requires.0, sets_uncounted x.sides x.units x.costs x.values c.requires.1.sets)

pub overflow_add-result : goal.overflow_add-result
overflow_add-result g c =
    let x = g.L.Line.course c.args.line.now in
    let few = few_steps x.sides x.units x.costs x.values x.all (g.met.L.Line.known c.args.line.now) c.requires.0 c.requires.1.sets c.measure-n.ensures in
    omega (arith, c.first_count-at.ensures, few)

pub returns : goal.returns
returns g c = counted _ _ _ _ c.measure-n.ensures c.first_count-at.ensures
