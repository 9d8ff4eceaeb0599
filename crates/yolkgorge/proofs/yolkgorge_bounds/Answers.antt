-- `yolkgorge::yolkgorge_bounds` meets its contract, by the contract of the planner. Assumes nothing.
use Rattle.yolkgorge.proofs.NumberLaws.{bounds_numbered}
use Rattle.yolkgorge.proofs.LimitLaws.{bounds_short, bounds_kept}
use Rattle.yolkgorge.proofs.yolkgorge_bounds.Goals as goal

pub returns-then-pair-lt16 : goal.returns-then-pair-lt16
returns-then-pair-lt16 c =
    bounds_short c.args.bytes.now c.args.place c.args.order.now c.args.pair.now c.bounds.result c.short_code.result c.if-pair-lt16.true c.bounds.ensures
    (rw (bounds_numbered c.bounds.result) c.short_code.ensures)

pub returns : goal.returns
returns c = bounds_kept c.args.bytes.now c.args.place c.args.order.now c.args.pair.now c.bounds-2.result c.keep.result _ c.if-pair-lt16.false c.bounds-2.ensures c.keep.ensures
