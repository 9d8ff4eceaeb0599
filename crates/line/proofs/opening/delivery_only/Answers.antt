-- `line::opening::delivery_only` meets its contract. Assumes nothing.
use mathlib.Core.Path.{refl}
use Rattle.line.proofs.OpeningLaws.{origin_reached, leads_delivery}
use Rattle.line.proofs.opening.delivery_only.Goals as goal

pub deliver-cursor-requires : goal.deliver-cursor-requires
deliver-cursor-requires g c =
    let x = g.L.Line.course c.args.line.now in
    origin_reached x.sides x.units x.costs x.values x.all (g.met.L.Line.known c.args.line.now) c.requires _ refl

pub returns : goal.returns
returns g c =
    let x = g.L.Line.course c.args.line.now in
    leads_delivery x.sides x.units x.costs x.values x.all (g.met.L.Line.known c.args.line.now) c.requires _ c.deliver-cursor.ensures
