use Rattle.area.specs.Entries.{entries}
use Rattle.grid.proofs.FillLaws.{Filling}
use Rattle.grid.proofs.fill_rows.Given as goal

abbrev pub invariant-loop-r : goal.invariant-loop-r
invariant-loop-r l = Filling l.units l.map (entries 4 l.given) l.initial.cells l.cells l.used l.last l.rises l.r
