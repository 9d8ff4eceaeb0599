-- `line::sums::add_up` meets its contract: a test that fails keeps the segments from fitting. Assumes nothing.
use mathlib.Core.Path.{sym, ◌∙◌, subst}
use native.Mathlib.Omega.{arith}
use lib.Dec.{T}
use Rattle.line.specs.Code.{Fit}
use Rattle.line.proofs.SegmentLaws.{units_total, value_total, segments_few, unfit, known}
use Rattle.line.proofs.sums.add_up.Goals as goal

pub returns-then-from-units : goal.returns-then-from-units
returns-then-from-units c =
    let a = c.args in
    unfit _ _ _ (λ (f : Fit a.units.now a.costs.now a.values.now). omega (arith, segments_few _ f.have, units_total _ _ _ f, c.if-from-units.true))

pub returns-then-costs-units : goal.returns-then-costs-units
returns-then-costs-units c =
    let a = c.args in
    unfit _ _ _ (λ (f : Fit a.units.now a.costs.now a.values.now). c.if-costs-units.true f.costs)

pub returns-then-values-units : goal.returns-then-values-units
returns-then-values-units c =
    let a = c.args in
    unfit _ _ _ (λ (f : Fit a.units.now a.costs.now a.values.now). c.if-values-units.true f.values)

pub returns-then-not-have_units : goal.returns-then-not-have_units
returns-then-not-have_units c =
    let a = c.args in
    unfit _ _ _ (λ (f : Fit a.units.now a.costs.now a.values.now). subst T (sym f.have ∙ sym c.have_units.ensures ∙ c.if-not-have_units.true) tt)

pub returns-then-from-n : goal.returns-then-from-n
returns-then-from-n c =
    let a = c.args in
    unfit _ _ _ (λ (f : Fit a.units.now a.costs.now a.values.now). omega (arith, units_total _ _ _ f, c.count-n.ensures, c.if-from-n.true))

pub returns-then-from-cost : goal.returns-then-from-cost
returns-then-from-cost c =
    let a = c.args in
    unfit _ _ _ (λ (f : Fit a.units.now a.costs.now a.values.now). omega (arith, f.cost_fits, c.total-cost.ensures, c.if-from-cost.true))

pub returns-then-from-value : goal.returns-then-from-value
returns-then-from-value c =
    let a = c.args in
    unfit _ _ _ (λ (f : Fit a.units.now a.costs.now a.values.now). omega (arith, value_total _ _ _ f, c.total-value.ensures, c.if-from-value.true))

pub returns : goal.returns
returns c =
    let have = sym c.have_units.ensures ∙ c.if-not-have_units.false in
    known _ _ _ _ c.if-costs-units.false c.if-values-units.false have c.count-n.ensures (omega arith) c.total-cost.ensures (omega arith) c.total-value.ensures (omega arith)
