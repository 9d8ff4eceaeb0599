-- The loop's invariant: the cells that stand among the first r rows are stored.
use mathlib.Core.List.{flat_map}
use Rattle.grid.specs.Map.{standing_cells}
use Rattle.area.proofs.PutLaws.{puts_none, puts_then}
use Rattle.record.proofs.PutLaws.{cells_turn, cells_room}
use Rattle.record.proofs.output.put_cells.Goals as goal

pub loop-r-init : goal.loop-r-init
unfolding standing_cells flat_map
loop-r-init c = (puts_none _ _)

pub put_cell-j-requires : goal.put_cell-j-requires
put_cell-j-requires c = cells_room _ _ c.loop-r-test.true c.loop-r.invariant c.requires

pub loop-r-preserved : goal.loop-r-preserved
loop-r-preserved c = (rw (cells_turn c.args.map.now c.args.cells.now c.loop-r.r) (puts_then c.loop-r.invariant c.put_cell-j.ensures))
