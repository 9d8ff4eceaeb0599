use Rattle.std.proofs.Common.{rules, ◌<◌, ◌≤◌, ◌≡◌, ◌-◌, ℕ, length, get_or}
use mathlib.Core.Path.{refl, sym, ◌∙◌}
use native.Mathlib.Omega.{arith}
use Rattle.search.specs.Layers.{Caps, Floors}
use Rattle.search.proofs.LimitLaws.{each_lists}
use Rattle.search.proofs.PlanLaws.{values_last, searchable, found_same}
use Rattle.search.proofs.search_rows.Goals as goal

pub each_row-requires-2 : goal.each_row-requires-2
each_row-requires-2 c = let f = c.requires in
    let vs = c.args.values.now in
    let h : (a : ℕ) → a < length vs → get_or vs a 0 ≤ get_or vs (length vs - 1) 0 = (values_last f).last in
    let n : length vs ≡ c.args.terms.rows = f.values_all ∙ sym f.good.rows_are in
    ((λ a l. let k : get_or vs a 0 ≤ get_or vs (c.args.terms.rows - 1) 0 = rw n at (h a l) in search rules), omega arith, refl)

pub invariant_of-rows-clause-searchable : goal.invariant_of-rows-clause-searchable
invariant_of-rows-clause-searchable c =
    let x = c.args in
    let n : length x.costs.now ≡ x.terms.rows = c.requires.costs_all ∙ sym c.requires.good.rows_are in
    let m : length x.values.now ≡ x.terms.rows = c.requires.values_all ∙ sym c.requires.good.rows_are in
    let cs : Caps x.terms x.costs.now c.each_row.new.limits (length x.costs.now) = each_lists _ c.each_row.ensures (λ a v l p. search rules) in
    let fs : Floors x.terms x.values.now c.each_row-2.new.limits (length x.values.now) = each_lists _ c.each_row-2.ensures (λ a v l p. search rules) in
    searchable c.requires (rw n at cs) (rw m at fs) c.all_units-held.ensures

pub returns : goal.returns
returns c =
    let x = c.args in
    let n : length x.costs.now ≡ x.terms.rows = c.requires.costs_all ∙ sym c.requires.good.rows_are in
    let m : length x.values.now ≡ x.terms.rows = c.requires.values_all ∙ sym c.requires.good.rows_are in
    let cs : Caps x.terms x.costs.now c.each_row.new.limits (length x.costs.now) = each_lists _ c.each_row.ensures (λ a v l p. search rules) in
    let fs : Floors x.terms x.values.now c.each_row-2.new.limits (length x.values.now) = each_lists _ c.each_row-2.ensures (λ a v l p. search rules) in
    found_same c.requires (rw n at cs) (rw m at fs) c.find_plan.ensures
