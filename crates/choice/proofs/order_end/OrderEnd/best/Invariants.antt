use Rattle.std.proofs.Common.{◌≡◌, ◌<◌, [], length, IfSome}
use Rattle.exchange.specs.Choice.{best}
use Rattle.choice.specs.Ends.{end_at, left_of, item_or}
use Rattle.choice.proofs.order_end.OrderEnd.best.Given as goal

-- the item to take of those below j
abbrev pub invariant-loop-j : goal.invariant-loop-j
invariant-loop-j l =
    let n = length l.self.units.now in
    IfSome l.best (λ i. i < n) × (item_or n l.best ≡ best (left_of (end_at l.self) l.todo) [] l.j)
