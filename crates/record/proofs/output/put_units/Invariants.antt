use mathlib.Core.List.{flat_map}
use lib.ListN.{drop}
use Rattle.area.specs.Entries.{digits}
use Rattle.area.proofs.PutLaws.{Left}
use Rattle.record.proofs.output.put_units.Given as goal

abbrev pub invariant-loop-n : goal.invariant-loop-n
invariant-loop-n l = Left (flat_map (digits 1) l.units) l.initial.out l.at (flat_map (digits 1) (drop l.n-index l.units)) l.out l.j
