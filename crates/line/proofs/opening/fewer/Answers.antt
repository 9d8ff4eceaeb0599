-- `line::opening::fewer` meets its contract. Assumes nothing.
use Rattle.line.proofs.OpeningLaws.{leads_own, leads_payment, fewer_paying, fewer_giving}
use Rattle.line.proofs.opening.fewer.Goals as goal

pub steps-m-requires : goal.steps-m-requires
steps-m-requires g c =
    let x = g.L.Line.course c.args.line.now in
    let paying = leads_payment x.sides x.units x.costs x.values x.all (g.met.L.Line.known c.args.line.now) c.requires _ c.payment_only-one.ensures in
    (c.requires, leads_own x.sides x.units x.costs x.values paying)

pub steps-n-requires : goal.steps-n-requires
steps-n-requires g c =
    let x = g.L.Line.course c.args.line.now in
    (c.requires, leads_own x.sides x.units x.costs x.values c.delivery_only-other.ensures)

pub returns-then-m-n : goal.returns-then-m-n
returns-then-m-n g c =
    let x = g.L.Line.course c.args.line.now in
    let k = g.met.L.Line.known c.args.line.now in
    let paying = leads_payment x.sides x.units x.costs x.values x.all k c.requires _ c.payment_only-one.ensures in
    fewer_paying x.sides x.units x.costs x.values x.all k c.requires _ _ _ _ paying c.delivery_only-other.ensures c.steps-m.ensures c.steps-n.ensures c.if-m-n.true

pub returns : goal.returns
returns g c =
    let x = g.L.Line.course c.args.line.now in
    let k = g.met.L.Line.known c.args.line.now in
    let paying = leads_payment x.sides x.units x.costs x.values x.all k c.requires _ c.payment_only-one.ensures in
    fewer_giving x.sides x.units x.costs x.values x.all k c.requires _ _ _ _ paying c.delivery_only-other.ensures c.steps-m.ensures c.steps-n.ensures c.if-m-n.false
