-- `line::pay` meets its contract: the price covers the whole cost, so the bound is a sum. Assumes nothing.
use mathlib.Core.Path.{◌≡◌, ◌∙◌}
use Prim.Native.Nat.{◌+◌, ◌-◌, min}
use native.Mathlib.Omega.{arith}
use Rattle.exchange.proofs.CoinLaws.{most_covered}
use Rattle.line.proofs.pay.Goals as goal

pub returns-then-bound-from : goal.returns-then-bound-from
returns-then-bound-from c =
    let a = c.args in
    let P = a.sides.price in
    let under : c.from.result + c.from-2.result + c.from-3.result ≡ min (P - a.t.cost + a.cost + a.sides.supplier) P = omega (arith, c.if-bound-from.true) in
    under ∙ most_covered P a.t.cost a.cost a.sides.supplier c.requires

pub returns : goal.returns
returns c =
    let a = c.args in
    let P = a.sides.price in
    let over : P ≡ min (P - a.t.cost + a.cost + a.sides.supplier) P = omega (arith, c.if-bound-from.false) in
    over ∙ most_covered P a.t.cost a.cost a.sides.supplier c.requires
