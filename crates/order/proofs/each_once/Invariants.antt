use mathlib.Core.Bool.{true}
use mathlib.Core.Path.{◌≡◌}
use Rattle.exchange.specs.Named.{each_once}
use Rattle.order.proofs.each_once.Given as goal

-- each of the items 1 to j stands once
abbrev pub invariant-loop-j : goal.invariant-loop-j
invariant-loop-j l = each_once l.j l.bytes ≡ true
