-- `line::opening::first_for` meets its contract. Assumes nothing.
use mathlib.Core.Path.{refl}
use Rattle.exchange.specs.declared.Objective.{Objective}
use Rattle.line.proofs.OpeningLaws.{leads_none, leads_payment, chosen, chosen_for}
use Rattle.line.proofs.opening.first_for.Goals as goal

pub returns-in-Steps : goal.returns-in-Steps
returns-in-Steps g c =
    let x = g.L.Line.course c.args.line.now in
    let none = leads_none x.sides x.units x.costs x.values x.all (g.met.L.Line.known c.args.line.now) c.requires _ refl in
    chosen_for x.sides x.units x.costs x.values c.in-Steps.is (chosen x.sides x.units x.costs x.values Objective.Steps _ _ none (λ xs o. o))

pub returns-in-Payments : goal.returns-in-Payments
returns-in-Payments g c =
    let x = g.L.Line.course c.args.line.now in
    chosen_for x.sides x.units x.costs x.values c.in-Payments.is (chosen x.sides x.units x.costs x.values Objective.Payments _ _ c.delivery_only.ensures (λ xs o. o))

pub returns-in-Deliveries : goal.returns-in-Deliveries
returns-in-Deliveries g c =
    let x = g.L.Line.course c.args.line.now in
    let paying = leads_payment x.sides x.units x.costs x.values x.all (g.met.L.Line.known c.args.line.now) c.requires _ c.payment_only.ensures in
    chosen_for x.sides x.units x.costs x.values c.in-Deliveries.is (chosen x.sides x.units x.costs x.values Objective.Deliveries _ _ paying (λ xs o. o))

pub returns-in-Moves : goal.returns-in-Moves
returns-in-Moves g c = let x = g.L.Line.course c.args.line.now in chosen_for x.sides x.units x.costs x.values c.in-Moves.is c.fewer.ensures
