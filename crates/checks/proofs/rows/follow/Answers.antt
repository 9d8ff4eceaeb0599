-- `checks::rows::follow` meets its contract, by the test of the start and the contract of `Rows::follow`. Assumes nothing.
use mathlib.Core.Bool.{not}
use mathlib.Core.Path.{ap}
use native.Mathlib.Omega.{arith}
use Rattle.checks.proofs.RowLaws.{some_rows, last_value, small, unsafe_start, started}
use Rattle.checks.proofs.rows.follow.Goals as goal

pub overflow_sub-n : goal.overflow_sub-n
overflow_sub-n c = some_rows c.args.terms.now c.requires

pub bounds-costs-n : goal.bounds-costs-n
bounds-costs-n c = omega (arith, some_rows c.args.terms.now c.requires)

pub bounds-values-n : goal.bounds-values-n
bounds-values-n c = last_value c.args.terms.now c.requires

pub bounds-costs-0 : goal.bounds-costs-0
bounds-costs-0 c = some_rows c.args.terms.now c.requires

pub bounds-values-0 : goal.bounds-values-0
bounds-values-0 c = omega (arith, last_value c.args.terms.now c.requires)

pub returns-then-not-start_safe : goal.returns-then-not-start_safe
returns-then-not-start_safe c = unsafe_start c.args.terms.now c.requires c.args.plan.now c.start_safe.ensures (ap not c.if-not-start_safe.true)

pub all_units-requires : goal.all_units-requires
all_units-requires c = small c.args.terms.now c.requires

pub follow-requires : goal.follow-requires
follow-requires c = started c.args.terms.now c.requires c.args.plan.now c.start_safe.ensures (ap not c.if-not-start_safe.false)
