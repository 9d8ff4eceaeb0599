-- `ladder::rises::Rises::next` meets its contract, by the law of one unit on. Assumes nothing.
use native.Mathlib.Omega.{arith}
use Rattle.ladder.proofs.RiseLaws.{cost_next, value_next, next_there}
use Rattle.ladder.proofs.rises.Rises.next.Goals as goal

pub overflow_add-result-2 : goal.overflow_add-result-2
overflow_add-result-2 c =
    let x = c.args.self.now in
    omega (arith, c.cost_after.ensures, cost_next _ _ x.lies x.known c.args.c c.requires.0 c.requires.1)

pub overflow_add-result-3 : goal.overflow_add-result-3
overflow_add-result-3 c =
    let x = c.args.self.now in
    omega (arith, c.value_after.ensures, value_next _ _ x.lies x.known c.args.c c.requires.0 c.requires.1)

pub returns : goal.returns
returns c =
    let x = c.args.self.now in
    rw (c.cost_after.ensures, c.value_after.ensures) (next_there _ _ x.lies x.known c.args.c c.requires.0 c.requires.1)
