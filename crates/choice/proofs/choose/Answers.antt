use Rattle.exchange.specs.declared.Sides.{Sides}
use Rattle.choice.proofs.JoinLaws.{too_many, not_all, all}
use Rattle.choice.proofs.choose.Goals as goal

pub returns-then-units-gt8 : goal.returns-then-units-gt8
returns-then-units-gt8 c = λ price.
    let x = c.args in
    let p : Sides = record { price = price; supplier = x.supplier; buyer = x.buyer } in
    record { answers = too_many p x.units.now x.costs.now x.values.now c.if-units-gt8.true }

pub returns-then-front-back : goal.returns-then-front-back
returns-then-front-back c = λ price.
    let x = c.args in
    let p : Sides = record { price = price; supplier = x.supplier; buyer = x.buyer } in
    record {
      answers = all p x.units.now x.costs.now x.values.now c.total.ensures.0 c.total-2.ensures.0
          (rw (c.from.ensures, c.from-2.ensures) at c.place-front.ensures) (rw (c.from.ensures, c.from-2.ensures) at c.place-back.ensures) c.if-front-back.true c.join.ensures;
    }

pub returns-else-front-back : goal.returns-else-front-back
returns-else-front-back c = λ price.
    let x = c.args in
    let p : Sides = record { price = price; supplier = x.supplier; buyer = x.buyer } in
    record {
      answers = not_all p x.units.now x.costs.now x.values.now c.total.ensures.0 c.total-2.ensures.0
          (rw (c.from.ensures, c.from-2.ensures) at c.place-front.ensures) (rw (c.from.ensures, c.from-2.ensures) at c.place-back.ensures) c.if-front-back.false;
    }
