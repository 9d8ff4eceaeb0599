-- `checks::rows::Rows::is_step` meets its contract: four comparisons, and whether the second row holds the first. Assumes nothing.
use mathlib.Core.Bool.{not}
use mathlib.Core.Path.{ap}
use Rattle.checks.proofs.RowLaws.{fails, held_decides}
use Rattle.checks.proofs.rows.Rows.is_step.Goals as goal

pub returns-then-not-is_step : goal.returns-then-not-is_step
returns-then-not-is_step c =
    let r = c.args.self.now in
    fails r.terms r.table r.held r.last r.units_held r.cost_is r.value_is c.requires.from c.requires.to _ _ c.is_step.ensures (ap not c.if-not-is_step.true)

pub returns : goal.returns
returns c =
    let r = c.args.self.now in
    held_decides r.terms r.table r.held r.last r.units_held r.cost_is r.value_is c.requires.from c.requires.to _ _ c.is_step.ensures (ap not c.if-not-is_step.false) c.word_holds.ensures
