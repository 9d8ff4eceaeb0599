use mathlib.Core.Path.{◌≡◌}
use mathlib.Core.Bool.{◌&&◌}
use lib.ListN.{drop}
use Rattle.area.specs.Entries.{entries}
use Rattle.contract.specs.Table.{all_within}
use Rattle.record.proofs.rows.all_within.Given as goal

abbrev pub invariant-loop-k : goal.invariant-loop-k
invariant-loop-k l = (l.within && all_within (drop l.k (entries 4 l.cells))) ≡ all_within (entries 4 l.cells)
