-- `checks::rows::Rows::follow` meets its contract. The invariant: the entries before i are steps, and row and payment stand after them.
-- Assumes nothing.
use mathlib.Core.Bool.{not}
use mathlib.Core.Path.{ap, ◌∙◌}
use native.Mathlib.Omega.{arith}
use Rattle.checks.proofs.CheckLaws.{held_entries}
use Rattle.checks.proofs.RowLaws.{passed_start, passed_next, above, no_step}
use Rattle.checks.proofs.rows.Rows.follow.Goals as goal

pub loop-i-init : goal.loop-i-init
loop-i-init c = let r = c.args.self.now in passed_start r.terms r.table c.args.plan.now c.requires

pub known-requires : goal.known-requires
known-requires c = let b = c.args.plan.now in omega (arith, (held_entries b.count b.places.now b.sums.now b.held).0, c.loop-i-test.true)

pub known-sum-requires : goal.known-sum-requires
known-sum-requires c = let b = c.args.plan.now in omega (arith, (held_entries b.count b.places.now b.sums.now b.held).1, c.loop-i-test.true)

pub returns-then-self-next : goal.returns-then-self-next
returns-then-self-next c =
    let r = c.args.self.now in
    above r.terms r.table c.args.plan.now c.loop-i.invariant c.loop-i-test.true (c.from-next.ensures ∙ c.known.ensures) c.known-sum.ensures (omega (arith, r.number_is, c.if-self-next.true))

pub returns-then-not-is_step : goal.returns-then-not-is_step
returns-then-not-is_step c =
    let r = c.args.self.now in
    no_step r.terms r.table c.args.plan.now c.loop-i.invariant c.loop-i-test.true (c.from-next.ensures ∙ c.known.ensures) c.known-sum.ensures (omega (arith, r.number_is, c.if-self-next.false))
    c.is_step.ensures (ap not c.if-not-is_step.true)

pub loop-i-preserved : goal.loop-i-preserved
loop-i-preserved c =
    let r = c.args.self.now in
    passed_next r.terms r.table c.args.plan.now c.loop-i.invariant c.loop-i-test.true (c.from-next.ensures ∙ c.known.ensures) c.known-sum.ensures (omega (arith, r.number_is, c.if-self-next.false))
    c.is_step.ensures (ap not c.if-not-is_step.false)
