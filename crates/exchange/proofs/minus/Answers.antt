-- `exchange::minus` meets its contract. Assumes nothing.
use Rattle.exchange.proofs.Machine.{difference}
use Rattle.exchange.proofs.minus.Goals as goal

pub overflow_sub-result : goal.overflow_sub-result
overflow_sub-result c = (difference c.args.added c.args.taken c.requires.0 c.requires.1).0

pub returns : goal.returns
returns c = (difference c.args.added c.args.taken c.requires.0 c.requires.1).1
