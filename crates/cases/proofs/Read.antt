-- The records of the table, read by computation. Assumes nothing.
use mathlib.Core.Path.{refl}
use lib.Count.{ones, ones_in}
use Rattle.area.specs.Entries.{num, up_to, column, entries}
use Rattle.grid.specs.Rows.{rows_of, less_one, largest_below, rising}
use Rattle.grid.specs.Map.{bit_at, bits_from, bit_count, standing}
use Rattle.grid.specs.Cells.{filled}
use Rattle.contract.specs.Field.{field, ranged, money, amount, form_of, amounts, head_at}
use Rattle.contract.specs.Segments.{cost_value, segment, segments, segment_count, segment_contract, segment_body}
use Rattle.contract.specs.Table.{units_at, all_within, grid_at, grids_at, table_at, cells_of, table_contract, table_end, table_body}
use Rattle.contract.specs.Parse.{parse}
use Rattle.cases.specs.Table.{cases}
use Rattle.cases.proofs.AllFacts.{◌and◌, AllRead}

pub all_read : AllRead cases
unfolding ones ones_in num up_to column entries rows_of less_one largest_below rising bit_at bits_from bit_count standing filled field ranged money amount form_of amounts head_at cost_value segment segments segment_count segment_contract segment_body units_at all_within grid_at grids_at table_at cells_of table_contract table_end table_body parse
all_read = refl and refl and refl and refl and refl and refl and refl and refl and refl and refl and refl and refl and refl and refl and refl and refl and refl and tt
