use Rattle.order.proofs.FirstEight.{eight_is}
use Rattle.order.proofs.first_eight.Goals as goal

pub returns : goal.returns
returns c = eight_is c.args.order.now c.min-n.result c.copy_from_slice.new.self c.min-n.ensures c.copy_from_slice.ensures.after
