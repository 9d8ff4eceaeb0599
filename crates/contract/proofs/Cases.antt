-- Worked records: what they say, and that the writer's record of it is the same. Assumes nothing.
use mathlib.Core.Path.{◌≡◌, refl}
use mathlib.Core.List.{List, [], ◌∷◌, ◌++◌, flat_map}
use Prim.Native.Nat.{ℕ}
use lib.ListN.{take, set}
use lib.Count.{ones, ones_in}
use Rattle.area.specs.Entries.{num, digits, up_to, column, entries}
use Rattle.grid.specs.Rows.{rows_of, less_one, largest_below, rising}
use Rattle.grid.specs.Map.{bit_at, bits_from, bit_count, standing, standing_cells, packed}
use Rattle.grid.specs.Cells.{filled, given, row_map}
use Rattle.contract.specs.Res.{refused, ok}
use Rattle.contract.specs.Contract.{Contract}
use Rattle.contract.specs.Field.{field, ranged, money, amount, form_of, amounts, head_at}
use Rattle.contract.specs.Segments.{cost_value, segment, segments, segment_count, segment_contract, segment_body}
use Rattle.contract.specs.Table.{units_at, all_within, grid_at, grids_at, table_at, cells_of, table_contract, table_end, table_body}
use Rattle.contract.specs.Parse.{parse}
use Rattle.contract.specs.Valid.{total, amounts_within, within_limit, rises}
use Rattle.contract.specs.Serialize.{map_of, money_bytes, segment_bytes, grid_bytes, body_bytes, serialize, record_of}
use Rattle.contract.specs.declared.Form.TheVariants.{Ladder, UnitPrices, Table}

-- a ladder: P 10, cs 1, cd 3, rises (4, 6), (4, 6)
rec_a : List ℕ
rec_a = 15 ∷ 0 ∷ 10 ∷ 0 ∷ 0 ∷ 0 ∷ 1 ∷ 0 ∷ 0 ∷ 0 ∷ 3 ∷ 0 ∷ 0 ∷ 0 ∷ 2 ∷ 0 ∷ 4 ∷ 0 ∷ 0 ∷ 0 ∷ 6 ∷ 0 ∷ 0 ∷ 0 ∷ 4 ∷ 0 ∷ 0 ∷ 0 ∷ 6 ∷ 0 ∷ 0 ∷ 0 ∷ []

con_a : Contract
con_a = record { price = 10; supplier = 1; buyer = 3; form = Ladder; units = []; costs = 4 ∷ 4 ∷ []; values = 6 ∷ 6 ∷ [] }

read_a : parse rec_a ≡ ok con_a
unfolding rec_a con_a num up_to column field ranged money amount form_of amounts head_at cost_value segment segments segment_count segment_contract segment_body parse
read_a = refl

written_a : record_of con_a 32 ≡ ok rec_a
unfolding rec_a con_a digits money_bytes map_of segment_bytes body_bytes serialize record_of within_limit amounts_within rises total all_within
written_a = refl

short_a : parse (take 31 rec_a) ≡ refused 1
unfolding rec_a num up_to column field ranged money amount form_of amounts head_at cost_value segment segments segment_count segment_contract segment_body parse
short_a = refl

long_a : parse (rec_a ++ (0 ∷ [])) ≡ refused 7
unfolding rec_a num up_to column field ranged money amount form_of amounts head_at cost_value segment segments segment_count segment_contract segment_body parse
long_a = refl

-- a table: two items of one unit; costs given in rows 1 and 3, values in row 3
rec_t : List ℕ
rec_t = 39 ∷ 0 ∷ 22 ∷ 0 ∷ 0 ∷ 0 ∷ 2 ∷ 0 ∷ 0 ∷ 0 ∷ 2 ∷ 0 ∷ 0 ∷ 0 ∷ 2 ∷ 1 ∷ 1 ∷ 10 ∷ 5 ∷ 0 ∷ 0 ∷ 0 ∷ 9 ∷ 0 ∷ 0 ∷ 0 ∷ 8 ∷ 7 ∷ 0 ∷ 0 ∷ 0 ∷ []

con_t : Contract
con_t = record { price = 22; supplier = 2; buyer = 2; form = Table; units = 1 ∷ 1 ∷ []; costs = 0 ∷ 5 ∷ 0 ∷ 9 ∷ []; values = 0 ∷ 0 ∷ 0 ∷ 7 ∷ [] }

read_t : parse rec_t ≡ ok con_t
unfolding rec_t con_t ones ones_in num up_to entries rows_of less_one largest_below rising bit_at bits_from bit_count standing filled field ranged money form_of amounts head_at units_at all_within grid_at grids_at table_at cells_of table_contract table_end table_body parse
read_t = refl

written_t : record_of con_t 31 ≡ ok rec_t
unfolding rec_t con_t digits up_to rows_of less_one largest_below rising bit_at standing_cells packed given row_map money_bytes map_of grid_bytes body_bytes serialize record_of within_limit amounts_within rises total all_within flat_map
written_t = refl

-- the cost of row 3 below that of row 1
falling_t : parse (set rec_t 22 4) ≡ refused 6
unfolding rec_t ones ones_in num up_to entries rows_of less_one largest_below rising bit_at bits_from bit_count standing filled field ranged money form_of amounts head_at units_at all_within grid_at grids_at table_at cells_of table_contract table_end table_body parse
falling_t = refl

-- a bit beyond the last row
beyond_t : parse (set rec_t 17 26) ≡ refused 3
unfolding rec_t ones ones_in num up_to entries rows_of less_one largest_below rising bit_at bits_from bit_count standing filled field ranged money form_of amounts head_at units_at all_within grid_at grids_at table_at cells_of table_contract table_end table_body parse
beyond_t = refl

-- unit prices, two items of one unit, (5, 3) and (3, 6), P 8, cs 1, cd 2
rec_g : List ℕ
rec_g = 23 ∷ 0 ∷ 8 ∷ 0 ∷ 0 ∷ 0 ∷ 1 ∷ 0 ∷ 0 ∷ 0 ∷ 2 ∷ 0 ∷ 0 ∷ 0 ∷ 2 ∷ 1 ∷ 5 ∷ 0 ∷ 0 ∷ 0 ∷ 3 ∷ 0 ∷ 0 ∷ 0 ∷ 1 ∷ 3 ∷ 0 ∷ 0 ∷ 0 ∷ 6 ∷ 0 ∷ 0 ∷ 0 ∷ []

con_g : Contract
con_g = record { price = 8; supplier = 1; buyer = 2; form = UnitPrices; units = 1 ∷ 1 ∷ []; costs = 5 ∷ 3 ∷ []; values = 3 ∷ 6 ∷ [] }

read_g : parse rec_g ≡ ok con_g
unfolding rec_g con_g num up_to column field ranged money amount form_of amounts head_at cost_value segment segments segment_count segment_contract segment_body parse
read_g = refl

written_g : record_of con_g 33 ≡ ok rec_g
unfolding rec_g con_g digits money_bytes map_of segment_bytes body_bytes serialize record_of within_limit amounts_within rises total all_within
written_g = refl
