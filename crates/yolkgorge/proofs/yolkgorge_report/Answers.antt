-- `yolkgorge::yolkgorge_report` meets its contract, by the contracts of its callees. Assumes nothing.
use Rattle.yolkgorge.proofs.ReplyLaws.{from_short, from_kept}
use Rattle.yolkgorge.proofs.yolkgorge_report.Goals as goal

pub returns-then-state-lt10 : goal.returns-then-state-lt10
returns-then-state-lt10 c =
    let x = c.args in
    from_short x.state.now x.count x.places.now x.sums.now x.side x.number 8 c.if-state-lt10.true

pub returns : goal.returns
returns c =
    let x = c.args in
    from_kept x.state.now x.count x.places.now x.sums.now x.side x.number c.keep.result c.if-state-lt10.false c.report-answer.ensures c.keep.ensures
