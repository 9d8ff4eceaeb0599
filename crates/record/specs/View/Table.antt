-- What the code's table stands for.
use Rattle.std.specs.Prelude.{◌≡◌, Bool, cond, ◌&&◌, List, ℕ, ◌+◌, ◌-◌, ◌*◌, ◌≤◌, eqb, length, Result}
use Rattle.area.specs.Entries.{entries}
use Rattle.grid.specs.Rows.{rows_of, rising}
use Rattle.grid.specs.Units.{Small}
use Rattle.grid.specs.Map.{standing}
use Rattle.grid.specs.Cells.{Fills}
use Rattle.contract.specs.Res.{Res}
use Rattle.contract.specs.Field.{Head}
use Rattle.contract.specs.Table as table
use Rattle.contract.specs.Table.{part, units_at, grid_at, units_of}
use Rattle.contract.specs.declared.Form.TheVariants.{Table}
use Rattle.contract.specs.declared.Refusal.{Refusal}
use Rattle.record.specs.View.Answer.{Gives}
use Rattle.record.specs.declared.table.Grid.{Grid}
use Rattle.record.specs.declared.table.Layout.{Layout}

-- what reading n units fields gives: the index after them, within the record
abbrev pub Units : List ℕ → ℕ → ℕ → Result ℕ Refusal → Type 0
Units s n i r = Gives (λ j. j) (units_at s n i) (λ j. (j ≡ i + n) × (j ≤ length s)) r

-- the grid that the code's struct holds
abbrev pub grid_of : Grid → table.Grid
grid_of g = record { map = g.map; cells = g.cells; end = g.end }

-- these items have so many rows, at most 128
pub record Counted (us : List ℕ) (rows : ℕ) : Type 0 where
  pub small : Small us
  pub rows_are : rows ≡ rows_of us

-- every cell is given, and none is below that of a row with one unit less of one item
abbrev pub given_rise : List ℕ → List ℕ → Bool
given_rise us gs = eqb (length gs) (rows_of us) && rising us gs (rows_of us)

-- the cells that are given
abbrev pub given_in : List ℕ → table.Grid → List ℕ
given_in s g = entries 4 (part g.cells g.end s)

-- the code's flag of a grid: whether every cell is given and none falls
abbrev pub RisesIs : List ℕ → List ℕ → Grid → Type 0
RisesIs s us g = g.rises ≡ given_rise us (given_in s (grid_of g))

-- a map of the rows and its cells, as many as rows stand, lie one after the other within the record
pub record Within (s : List ℕ) (rows : ℕ) (g : table.Grid) : Type 0 where
  pub map_end : g.map ≤ g.cells
  pub cells_end : g.cells ≤ g.end
  pub within : g.end ≤ length s
  pub counted : g.end - g.cells ≡ 4 * standing (part g.map g.cells s) rows

-- a grid that was found
pub record GridFound (s us : List ℕ) (rows : ℕ) (g : Grid) : Type 0 where
  pub within : Within s rows (grid_of g)
  pub rises_is : RisesIs s us g

-- what reading a grid gives
abbrev pub Grids : List ℕ → List ℕ → ℕ → ℕ → Result Grid Refusal → Type 0
Grids s us rows m r = Gives grid_of (grid_at s rows m) (GridFound s us rows) r

-- the layout that the code's struct holds
abbrev pub layout_of : Layout → table.Layout
layout_of t =
    record { units = t.units; units_end = t.after; rows = t.rows; costs = grid_of t.costs; values = grid_of t.values }

-- at most four units fields lie within the record
pub record Items (s : List ℕ) (first after : ℕ) : Type 0 where
  pub begin : first ≤ after
  pub few : after ≤ first + 4
  pub within : after ≤ length s

-- the parts of a table lie within the record; at most 128 rows
pub record Laid (s : List ℕ) (t : table.Layout) : Type 0 where
  pub items : Items s t.units t.units_end
  pub rows_are : t.rows ≡ rows_of (units_of s t)
  pub rows_le : t.rows ≤ 128
  pub costs_in : Within s t.rows t.costs
  pub values_in : Within s t.rows t.values

-- the flags of a table's grids
pub record TableRises (s : List ℕ) (t : Layout) : Type 0 where
  pub costs_rise : RisesIs s (units_of s (layout_of t)) t.costs
  pub values_rise : RisesIs s (units_of s (layout_of t)) t.values

-- what finding a table's parts gives
abbrev pub Tables : List ℕ → Res table.Layout → Result Layout Refusal → Type 0
Tables s answer r = Gives layout_of answer (λ t. Laid s (layout_of t) × TableRises s t) r

-- the cells of a grid: the given ones where the flag says that all are given and none falls, else those that were filled
abbrev pub grid_cells : List ℕ → Grid → List ℕ → List ℕ
grid_cells s g filled = cond g.rises (given_in s (grid_of g)) filled

-- the cells of a grid, blanks filled
abbrev pub Filled : List ℕ → List ℕ → table.Grid → List ℕ → Bool → List ℕ → Type 0
Filled s us g before rises after = Fills us (part g.map g.cells s) (given_in s g) before rises after

-- a table's head and layout, and two work areas with a cell for each row
pub record Working (s : List ℕ) (h : Head) (t : Layout) (c v : List ℕ) : Type 0 where
  pub form_is : h.form ≡ Table
  pub laid : Laid s (layout_of t)
  pub rises_is : TableRises s t
  pub costs_long : length c ≡ t.rows
  pub values_long : length v ≡ t.rows
