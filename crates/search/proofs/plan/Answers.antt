use mathlib.Core.Path.{refl, sym, ◌∙◌}
use native.Mathlib.Omega.{arith}
use Rattle.search.proofs.PlanLaws.{suited, all_steps, fitted, no_start, no_count, planned_success}
use Rattle.search.proofs.plan.Goals as goal

pub starts-requires : goal.starts-requires
starts-requires c =
    let f = fitted _ _ _ _ _ _ (sym c.in_ok-most.ensures.ok_part ∙ c.most_steps.ensures) c.args.sides c.requires in
    (omega (arith, f.good.some), refl, f.values_all ∙ sym f.costs_all)

pub returns-then-not-starts : goal.returns-then-not-starts
returns-then-not-starts c =
    let e = sym c.in_ok-most.ensures.ok_part ∙ c.most_steps.ensures in
    (suited _ _ _ _ _ _ e, (no_start (fitted _ _ _ _ _ _ e c.args.sides c.requires) (sym c.starts.ensures ∙ c.if-not-starts.true), (refl, (refl, c.clear.ensures))))

pub search_rows-steps-requires : goal.search_rows-steps-requires
search_rows-steps-requires c = fitted _ _ _ _ _ _ (sym c.in_ok-most.ensures.ok_part ∙ c.most_steps.ensures) c.args.sides c.requires

pub returns-in_default : goal.returns-in_default
returns-in_default c =
    let e = sym c.in_ok-most.ensures.ok_part ∙ c.most_steps.ensures in
    let found = c.in_default.ensures in
    (suited _ _ _ _ _ _ e, (no_count (fitted _ _ _ _ _ _ e c.args.sides c.requires) (all_steps _ _ _ _ _ _ e) found, (found.places_kept refl, (found.sums_kept refl, c.clear-2.ensures))))

pub returns : goal.returns
returns c =
    let e = sym c.in_ok-most.ensures.ok_part ∙ c.most_steps.ensures in
    let f = fitted _ _ _ _ _ _ e c.args.sides c.requires in
    (suited _ _ _ _ _ _ e, (planned_success f (all_steps _ _ _ _ _ _ e) c.in-Some.ensures (sym c.starts.ensures ∙ c.if-not-starts.false) c.clear_from.ensures c.clear_from-2.ensures, c.clear-2.ensures))
