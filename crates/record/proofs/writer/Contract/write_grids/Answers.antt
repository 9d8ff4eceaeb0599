use native.Mathlib.Omega.{arith}
use Rattle.contract.proofs.Lengths.{digits_all_length}
use Rattle.area.proofs.PutLaws.{puts_then}
use Rattle.record.proofs.WriteLaws.{short, written, laid, map_size_lem, grid_size, table_ready, table_length}
use Rattle.record.proofs.writer.Contract.write_grids.Goals as goal

pub grid_len-requires : goal.grid_len-requires
grid_len-requires c =
    let m = c.requires in
    omega (arith, map_size_lem _ _ _ m.cost_map_is, laid m.table)

pub grid_len-requires-2 : goal.grid_len-requires-2
grid_len-requires-2 c =
    let m = c.requires in
    omega (arith, map_size_lem _ _ _ m.value_map_is, laid m.table)

pub returns-then-out-n : goal.returns-then-out-n
returns-then-out-n c =
    let m = c.requires in
    short (table_ready m) (omega (arith, table_length m))

pub put_grid-k-requires : goal.put_grid-k-requires
put_grid-k-requires c =
    let m = c.requires in
    omega (arith, digits_all_length 1 c.args.self.units.now, grid_size _ _ _ m.cost_map_is)

pub put_grid-requires : goal.put_grid-requires
put_grid-requires c =
    let m = c.requires in
    omega (arith, digits_all_length 1 c.args.self.units.now, grid_size _ _ _ m.cost_map_is, grid_size _ _ _ m.value_map_is)

pub returns : goal.returns
returns c =
    let m = c.requires in
    written (table_ready m) (omega (arith, table_length m))
    (puts_then (puts_then (puts_then c.put_head-i.ensures c.put_units-j.ensures) c.put_grid-k.ensures) c.put_grid.ensures)
