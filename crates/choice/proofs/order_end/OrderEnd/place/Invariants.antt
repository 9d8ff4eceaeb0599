use Rattle.std.proofs.Common.{◌≡◌}
use Rattle.choice.specs.Ends.{end_at, with_slack}
use Rattle.choice.proofs.PlaceLaws.{Going}
use Rattle.choice.proofs.order_end.OrderEnd.place.Given as goal

-- what is held is what `count` choices place
abbrev pub invariant-loop-count : goal.invariant-loop-count
invariant-loop-count l =
    let e = end_at l.self in
    Going e l.count l.todo l.items l.end.added l.end.taken × (end_at l.end ≡ with_slack e l.end.added l.end.taken)
