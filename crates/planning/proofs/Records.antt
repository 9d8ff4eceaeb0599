-- From the promise for a contract to that for the record that says it. Assumes nothing.
use mathlib.Core.Path.{◌≡◌, refl, sym, ap, subst, ◌∙◌}
use mathlib.Core.Bool.{true}
use mathlib.Core.List.{List}
use Prim.Native.Nat.{ℕ}
use Rattle.std.specs.Prelude.{Result}
use Rattle.contract.specs.Res.{refused, ok, bind}
use Rattle.contract.specs.Contract.{Contract}
use Rattle.contract.specs.Parse.{parse}
use Rattle.contract.specs.declared.Form.TheVariants.{UnitPrices}
use Rattle.contract.proofs.ParsedValid.ResLaws.{ok_inv}
use Rattle.record.specs.Find.{LadderFound, HeadFound}
use Rattle.record.specs.declared.Ladder.{Ladder}
use Rattle.record.proofs.FindLaws.{found_form}
use Rattle.exchange.specs.declared.Objective.{Objective}
use Rattle.planning.specs.Answer.{answer_of}
use Rattle.planning.specs.Areas.{Areas}
use Rattle.planning.specs.Promise.{along_order, roomed, ahead, PlansFor, PlansOf}
use Rattle.planning.specs.declared.PlanError.{PlanError}

-- a record that is refused
pub refused_plans : (aim : Objective) (bytes : List ℕ) (a : Areas) (n : ℕ) → parse bytes ≡ refused n → PlansFor aim (ahead bytes a) (refused n) a a
unfolding ahead
refused_plans aim bytes a n e = rw e (refl, refl)

-- a record that says a contract
pub accepted_plans : (aim : Objective) (bytes : List ℕ) (k : Contract) (r : Result ℕ PlanError) (a a' : Areas) → parse bytes ≡ ok k → PlansOf aim k r a a'
    → PlansFor aim (ahead bytes a) (answer_of r) a a'
unfolding ahead
accepted_plans aim bytes k r a a' e h = subst (λ x. PlansFor aim (bind x (λ k. roomed k a)) (answer_of r) a a') (sym e) h.plans

-- a ladder or unit prices that were found: its plans go along an order
pub ladder_along : (s : List ℕ) (l : Ladder) → LadderFound s l → (k : Contract) → parse s ≡ ok k → along_order k.form ≡ true
ladder_along s l f k p = ap (λ (c : Contract). along_order c.form) (ok_inv (sym p ∙ f.says))

pub prices_along : (s : List ℕ) → HeadFound UnitPrices s → (k : Contract) → parse s ≡ ok k → along_order k.form ≡ true
prices_along s f k p = ap along_order (found_form UnitPrices s f k p)
