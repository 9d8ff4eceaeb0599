use mathlib.Core.Path.{◌≡◌}
use mathlib.Core.List.{◌++◌}
use lib.ListN.{length, take, drop}
use Rattle.area.specs.Entries.{entries}
use Rattle.record.proofs.rows.copy_given.Given as goal

abbrev pub invariant-loop-k : goal.invariant-loop-k
invariant-loop-k l = (l.out ≡ take l.k (entries 4 l.given) ++ drop l.k l.initial.out) × (length l.out ≡ length l.initial.out)
