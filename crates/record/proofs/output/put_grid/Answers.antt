use native.Mathlib.Omega.{arith}
use lib.ListN.{length-append}
use Rattle.record.specs.View.Write.{grid_with}
use Rattle.area.proofs.PutLaws.{puts_then, room_second}
use Rattle.record.proofs.output.put_grid.Goals as goal

pub put_map-j-requires : goal.put_map-j-requires
unfolding grid_with
put_map-j-requires c = omega (arith, simp length-append at c.requires)

pub put_cells-requires : goal.put_cells-requires
unfolding grid_with
put_cells-requires c = room_second _ c.put_map-j.ensures c.requires

pub returns : goal.returns
unfolding grid_with
returns c = puts_then c.put_map-j.ensures c.put_cells.ensures
