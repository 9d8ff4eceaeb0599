use mathlib.Core.Path.{◌≡◌}
use Prim.Native.Nat.{◌*◌, ◌^◌, ◌≤◌}
use Rattle.exchange.specs.Chosen.{at}
use Rattle.exchange.specs.Choice.{sum_over, all_items}
use Rattle.choice.proofs.total.Given as goal

-- the sum over the items below j
abbrev pub invariant-loop-j : goal.invariant-loop-j
invariant-loop-j l = (l.sum ≡ sum_over l.units (at l.amounts) (all_items l.j)) × (l.sum ≤ l.j * 2 ^ 48)
