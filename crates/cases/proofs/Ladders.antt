-- How planning of a ladder can end, by tests of its deal. Assumes nothing.
use mathlib.Core.Path.{◌≡◌, refl, sym, ◌∙◌}
use mathlib.Core.Bool.{false, false≢true}
use mathlib.Core.List.{List, []}
use Prim.Native.Nat.{ℕ}
use Rattle.contract.specs.Res.{ok}
use Rattle.contract.specs.Contract.{Contract}
use Rattle.contract.specs.Parse.{parse}
use Rattle.contract.specs.declared.Form.TheVariants.{Ladder}
use Rattle.exchange.specs.Deal.{State}
use Rattle.exchange.specs.Forms.{ladder}
use Rattle.exchange.specs.Named.{each_once}
use Rattle.exchange.specs.declared.Sides.{Sides}
use Rattle.exchange.proofs.TestLaws.{possible, possible↔}
use Rattle.order.specs.Bytes.{all_zero, names_each}
use Rattle.planning.specs.Deals.{contract_with}
use Rattle.cases.specs.Case.{plan, no_plan, no_order}
use Rattle.cases.proofs.AllFacts.{Right}
use Rattle.cases.proofs.OneOrder.{form_line, RuleSteps, plan_possible, rule_ours}
use Rattle.cases.proofs.Planning.{none_planned, claimed_given}

module _ (bytes : List ℕ) (p : Sides) (costs values : List ℕ) (read : parse bytes ≡ ok (contract_with Ladder p [] costs values)) where
  abbrev k : Contract
  k = contract_with Ladder p [] costs values

  pub ladder_plan : (xs : List State) → RuleSteps (ladder p costs values) xs → Right bytes (ok k) (plan no_order xs)
  unfolding names_each all_zero each_once
  ladder_plan xs steps =
      claimed_given bytes k read no_order refl xs
      (record { named = refl; chosen = tt; ours = rule_ours _ (form_line Ladder tt p [] costs values []) xs steps Ladder tt })

  pub ladder_none : possible (ladder p costs values) ≡ false → Right bytes (ok k) (no_plan 9)
  ladder_none e =
      none_planned bytes k read (λ σ o xs h. false≢true (sym e ∙ (possible↔ _).1 (plan_possible _ (form_line Ladder tt p [] costs values σ) xs h)))
