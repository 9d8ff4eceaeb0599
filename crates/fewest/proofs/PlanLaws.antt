-- From planning along an order to the promise of a record, which refuses a table. Assumes nothing.
use mathlib.Core.Path.{◌≡◌, refl, sym, subst}
use mathlib.Core.Bool.{true}
use mathlib.Core.List.{List}
use Prim.Native.Nat.{ℕ}
use Rattle.std.specs.Prelude.{Result}
use Rattle.contract.specs.Res.{Res, refused, ok, bind, test}
use Rattle.contract.specs.Contract.{Contract, number_of}
use Rattle.contract.specs.Parse.{parse}
use Rattle.contract.specs.declared.Form.TheVariants.{Table}
use Rattle.contract.specs.declared.Refusal.{Refusal}
use Rattle.contract.specs.declared.Refusal.TheVariants.{Map}
use Rattle.exchange.specs.declared.Objective.{Objective}
use Rattle.planning.specs.Answer.{answer_of}
use Rattle.planning.specs.Areas.{Areas}
use Rattle.planning.specs.Promise.{along_order, roomed, ahead, ahead_along, PlansFor}
use Rattle.planning.specs.declared.PlanError.{PlanError}
use Rattle.along.specs.Code.{PlansFound}
use Rattle.fewest.specs.Code.{Refuses}

module _ (bytes : List ℕ) where
  -- a ladder or unit prices are planned as for fewest steps, but for the objective
  pub along_plans : (aim : Objective) (a a' : Areas) → ((k : Contract) → parse bytes ≡ ok k → along_order k.form ≡ true) → (r : Result ℕ PlanError)
      → PlansFound aim bytes r a a' → PlansFor aim (ahead_along bytes a) (answer_of r) a a'
  unfolding ahead ahead_along
  along_plans aim a a' along r h = subst (λ x. PlansFor aim x (answer_of r) a a') (sym (go (parse bytes) refl)) h.plans
    where
      go : (x : Res Contract) → parse bytes ≡ x
          → bind x (λ k. test 2 (along_order k.form) (roomed k a)) ≡ bind x (λ k. roomed k a)
      go (refused n) e = refl
      go (ok k) e = rw (along k e) refl

  -- a record that is refused
  pub record_refused : (e : Refusal) → parse bytes ≡ refused (number_of e) → Refuses bytes e
  unfolding ahead_along
  record_refused e q a = rw q refl

  -- a table
  pub table_refused : (k : Contract) → parse bytes ≡ ok k → k.form ≡ Table → Refuses bytes Map
  unfolding ahead_along
  table_refused k q e a = rw (q, e) refl

  -- what is refused leaves the areas
  pub refused_plans : (aim : Objective) (a : Areas) (e : Refusal) → Refuses bytes e → PlansFor aim (ahead_along bytes a) (refused (number_of e)) a a
  refused_plans aim a e h = rw (h a) (refl, refl)
