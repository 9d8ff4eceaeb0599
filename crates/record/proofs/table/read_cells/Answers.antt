use mathlib.Core.Path.{◌∙◌}
use borrow.Author.Tests.{le-leb, lt-leb}
use Rattle.contract.specs.Table.{table_contract}
use Rattle.contract.specs.declared.Refusal.TheVariants.{Falling, Short}
use Rattle.record.specs.View.Head.{head_of}
use Rattle.record.specs.View.Table.{grid_of, layout_of, grid_cells}
use Rattle.record.proofs.AnswerLaws.{refuses, accepts, sized_stop}
use Rattle.record.proofs.TableLaws.{units_read}
use Rattle.record.proofs.CellLaws.{CellsRead, cells_sized, cells_read, said_costs_fall, said_values_fall, said_cells, table_header}
use Rattle.record.proofs.table.read_cells.Goals as goal
use Rattle.record.proofs.table.read_cells.Goals.{After-fill_cells, After-fill_cells-2, then-costs-t-via-then-costs-t, then-costs-t-via-else-costs-t+then-values-t}

-- the cells of the costs, and of the values, as they were filled
costs_read : (c : After-fill_cells) → CellsRead c.args.s.now (layout_of c.args.t) (grid_of c.args.t.costs) c.fill_cells.result (grid_cells c.args.s.now c.args.t.costs c.fill_cells.new.cells)
costs_read c = cells_read _ _ (units_read c.requires.laid.items c.units_of-units.ensures) c.requires.costs_long c.fill_cells.ensures

values_read : (c : After-fill_cells-2) → CellsRead c.args.s.now (layout_of c.args.t) (grid_of c.args.t.values) c.fill_cells-2.result (grid_cells c.args.s.now c.args.t.values c.fill_cells-2.new.cells)
values_read c = cells_read _ _ (units_read c.requires.laid.items c.units_of-units.ensures) c.requires.values_long c.fill_cells-2.ensures

pub fill_cells-requires : goal.fill_cells-requires
fill_cells-requires c =
    let pre = c.requires in
    let us = units_read pre.laid.items c.units_of-units.ensures in
    (rw pre.costs_long pre.laid.costs_in, cells_sized (layout_of c.args.t) pre.laid us pre.costs_long, rw us pre.rises_is.costs_rise)

pub returns-then-not-fill_cells : goal.returns-then-not-fill_cells
returns-then-not-fill_cells c =
    let cr = costs_read (goal.at.returns-then-not-fill_cells c).After-fill_cells in
    refuses _ _ Falling (sized_stop _ _ (said_costs_fall _ _ _ (cr.rises_is ∙ c.if-not-fill_cells.true)))

pub fill_cells-requires-2 : goal.fill_cells-requires-2
fill_cells-requires-2 c =
    let pre = c.requires in
    let us = units_read pre.laid.items c.units_of-units.ensures in
    (rw pre.values_long pre.laid.values_in, cells_sized (layout_of c.args.t) pre.laid us pre.values_long, rw us pre.rises_is.values_rise)

pub returns-then-not-fill_cells-2 : goal.returns-then-not-fill_cells-2
returns-then-not-fill_cells-2 c =
    let cr = costs_read (goal.at.returns-then-not-fill_cells-2 c).After-fill_cells in
    let vr = values_read (goal.at.returns-then-not-fill_cells-2 c).After-fill_cells-2 in
    refuses _ _ Falling (sized_stop _ _ (said_values_fall _ _ _ (cr.rises_is ∙ c.if-not-fill_cells.false) (vr.rises_is ∙ c.if-not-fill_cells-2.true)))

pub returns-then-costs-t : goal.returns-then-costs-t
returns-then-costs-t c =
    let cr = costs_read (goal.at.returns-then-costs-t c).After-fill_cells in
    let vr = values_read (goal.at.returns-then-costs-t c).After-fill_cells-2 in
    let said = said_cells _ _ _ _ _ (cr.rises_is ∙ c.if-not-fill_cells.false) (vr.rises_is ∙ c.if-not-fill_cells-2.false) in
    elim c.then-costs-t.branch [
      | then-costs-t-via-then-costs-t w ↦ refuses _ _ Short (said ∙ simp (lt-leb _ _ w.if-costs-t.true))
      | then-costs-t-via-else-costs-t+then-values-t w ↦ refuses _ _ Short (said ∙ simp (le-leb _ _ w.if-costs-t.false, lt-leb _ _ w.if-values-t.true))
    ]

pub returns : goal.returns
unfolding table_contract
returns c =
    let s = c.args.s.now in
    let h = head_of c.args.h in
    let t = layout_of c.args.t in
    let cr = costs_read (goal.at.returns c).After-fill_cells in
    let vr = values_read (goal.at.returns c).After-fill_cells-2 in
    accepts (table_contract s h t) _ _
    (said_cells _ _ _ _ _ (cr.rises_is ∙ c.if-not-fill_cells.false) (vr.rises_is ∙ c.if-not-fill_cells-2.false) ∙ simp (le-leb _ _ c.if-costs-t.false, le-leb _ _ c.if-values-t.false))
    (c.header_of.ensures ∙ table_header h t c.requires.laid.items c.requires.form_is c.units_of-units.ensures)
    (rw cr.cells_are at c.store_cells.ensures)
    (rw vr.cells_are at c.store_cells-2.ensures)
