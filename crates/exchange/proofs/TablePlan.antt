-- The search over the rows of a table. Assumes nothing.
pub mod First
pub mod Floor
pub mod Need
pub mod Forward
pub mod Short
pub mod Count
pub mod Planned
pub mod FewestLaws
pub mod RowUnits
use mathlib.Core.Path.{◌≡◌}
use mathlib.Core.Bool.{true}
use mathlib.Core.List.{List, foldr}
use Prim.Native.Nat.{ℕ, ◌+◌, ◌≤◌, ◌<◌}
use native.Mathlib.Omega.{arith}
use lib.ListN.{length}
use Rattle.grid.specs.Rows.{rows_of, rising}
use Rattle.grid.proofs.RowLaws.{rows_pos}
use Rattle.exchange.specs.Deal.{State, Safe, Plan}
use Rattle.exchange.specs.Forms.{table}
use Rattle.exchange.specs.Work.{Rising, work_of}
use Rattle.exchange.specs.Fewest.{Earliest}
use Rattle.exchange.specs.Search.{count, most_steps, planned}
use Rattle.exchange.specs.declared.Sides.{Sides}
use Rattle.exchange.proofs.FormLaws.{table_rising}
use Rattle.exchange.proofs.TablePlan.Planned.{plan_counted, planned_earliest}
use Rattle.exchange.proofs.TablePlan.RowUnits.{units_of, units_rise, units_last, last_pos}

module _ (p : Sides) (us costs values : List ℕ) (lc : length costs ≡ rows_of us) (lv : length values ≡ rows_of us)
    (rc : rising us costs (length costs) ≡ true) (rv : rising us values (length values) ≡ true) (mark : ℕ) where
  rises : Rising (table p us costs values)
  rises = table_rising p us costs values lc lv rc rv

  -- where a plan exists, the start is safe and there is a count
  pub table_counted : (ys : List State) → Plan (table p us costs values) ys
      → Safe (table p us costs values) 0 0 × (count (work_of (table p us costs values)) mark (most_steps us) ≤ most_steps us)
  table_counted =
      let h : 0 < rows_of us = rows_pos us in
      plan_counted _ rises mark (most_steps us) (units_of us)
      (λ a b i j t n. units_rise us a b (omega arith) (omega arith) t n) (omega (arith, units_last us))

  -- the list read forwards is then a plan with fewest steps, and by the earliest rows
  pub table_earliest : p.price < mark → 0 < foldr ◌+◌ 0 us → Safe (table p us costs values) 0 0
      → count (work_of (table p us costs values)) mark (most_steps us) ≤ most_steps us
      → Earliest (table p us costs values) (planned (work_of (table p us costs values)) mark (most_steps us))
  table_earliest high some = planned_earliest _ rises mark (most_steps us) high (last_pos us some)
