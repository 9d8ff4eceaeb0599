use mathlib.Core.List.{List, ◌++◌, reverse}
use mathlib.Core.Path.{◌≡◌}
use Prim.Native.Nat.{ℕ, ◌-◌}
use lib.ListN.{drop}
use Rattle.choice.specs.Ends.{Holds}
use Rattle.choice.specs.Promise.{numbered}
use Rattle.choice.proofs.join.Given as goal

-- the items of the front and the last k of the back's are in place
abbrev pub invariant-loop-k : goal.invariant-loop-k
invariant-loop-k l = (f b : List ℕ) → Holds f l.front.items l.front.count → Holds b l.back.items l.back.count
    → l.items ≡ numbered (f ++ reverse (drop (l.back.count - l.k) b))
