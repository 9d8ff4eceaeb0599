use Rattle.area.specs.Puts.{Puts}
use Rattle.record.proofs.PutLaws.{cells_to}
use Rattle.record.proofs.output.put_cells.Given as goal

abbrev pub invariant-loop-r : goal.invariant-loop-r
invariant-loop-r l = Puts (cells_to l.map l.cells l.r) l.initial.out l.at l.j l.out
