use Rattle.contract.specs.Table.{grids_at, part}
use Rattle.contract.specs.declared.Refusal.TheVariants.{Range}
use Rattle.record.proofs.Laws.{got, stop, stopped, none_of}
use Rattle.record.proofs.TableLaws.{RowCount, units_read, rows_read, rows_over}
use Rattle.record.proofs.table.grids_at.Goals as goal
use Rattle.record.proofs.table.grids_at.Goals.{In_ok-rows}

rows_of : (c : In_ok-rows) → RowCount (part c.args.first c.args.after c.args.s.now) c.in_ok-rows.rows
rows_of c = rows_read c.requires c.units_of-units.ensures _ c.row_count.ensures Range c.in_ok-rows.ensures.value

pub returns-in_err-rows : goal.returns-in_err-rows
unfolding grids_at
returns-in_err-rows c =
    let none = none_of c.row_count.result c.in_err-rows.ensures.value in
    stopped Range (simp (rows_over c.requires c.units_of-units.ensures _ c.row_count.ensures none.0)) (rw none.1 at c.from_residual.ensures.1)

pub returns-in_err-costs : goal.returns-in_err-costs
unfolding grids_at
returns-in_err-costs c =
    let r = rows_of (goal.at.returns-in_err-costs c).In_ok-rows in
    simp r.test (stop _ (rw r.rows at c.in_err-costs.ensures) c.from_residual-in_err-costs.ensures.1)

pub returns-in_err-values : goal.returns-in_err-values
unfolding grids_at
returns-in_err-values c =
    let r = rows_of (goal.at.returns-in_err-values c).In_ok-rows in
    simp (r.test, rw r.rows at (got c.in_ok-costs.ensures)) (stop _ (rw r.rows at c.in_err-values.ensures) c.from_residual-in_err-values.ensures.1)

pub returns : goal.returns
unfolding grids_at
returns c =
    let r = rows_of (goal.at.returns c).In_ok-rows in
    let us = units_read c.requires c.units_of-units.ensures in
    let costs = c.in_ok-costs.ensures in
    let values = c.in_ok-values.ensures in
    record {
      meets = simp (r.rows, r.test, rw r.rows at (got costs), rw r.rows at (got values));
      known = (
        record { items = c.requires; rows_are = r.rows; rows_le = r.few; costs_in = costs.known.within; values_in = values.known.within },
        record { costs_rise = rw us at costs.known.rises_is; values_rise = rw us at values.known.rises_is },
      );
    }
