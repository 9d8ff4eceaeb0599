-- Planning of unit prices gives the steps of the rule along the chosen order, and finds none where there is no such order. Assumes nothing.
use mathlib.Core.Path.{◌≡◌}
use mathlib.Core.Bool.{true}
use mathlib.Core.List.{List}
use mathlib.Core.Option.{none, some}
use Prim.Native.Nat.{ℕ}
use lib.ListN.{length}
use Rattle.contract.specs.Res.{ok}
use Rattle.contract.specs.Contract.{Contract}
use Rattle.contract.specs.Parse.{parse}
use Rattle.contract.specs.declared.Form.TheVariants.{UnitPrices}
use Rattle.contract.proofs.ParsedValid.{parsed_valid}
use Rattle.exchange.specs.Choice.{choose}
use Rattle.exchange.specs.Deal.{State}
use Rattle.exchange.specs.declared.Sides.{Sides}
use Rattle.exchange.proofs.Choice.ChosenLaws.{choose_is_chosen, choose_none}
use Rattle.planning.specs.Deals.{contract_with}
use Rattle.planning.specs.Order.{items_by, names_order, order_in, deal_by}
use Rattle.planning.proofs.PricesPlan as planning
use Rattle.cases.specs.Case.{plan, no_plan}
use Rattle.cases.proofs.AllFacts.{Right}
use Rattle.cases.proofs.OneOrder.{form_line, RuleSteps, rule_ours}
use Rattle.cases.proofs.Planning.{none_planned, claimed_given}

module _ (bytes : List ℕ) (p : Sides) (units costs values : List ℕ) (read : parse bytes ≡ ok (contract_with UnitPrices p units costs values)) where
  abbrev k : Contract
  k = contract_with UnitPrices p units costs values

  pub prices_plan : (order : List ℕ) → length order ≡ 8 → names_order k order ≡ true → choose p units costs values ≡ some (items_by k order)
      → (xs : List State) → RuleSteps (deal_by k order) xs → Right bytes (ok k) (plan order xs)
  unfolding order_in
  prices_plan order eight named e xs steps =
      claimed_given bytes k read order eight xs
      (record {
        named = named;
        chosen = choose_is_chosen p units costs values (items_by k order) e;
        ours = rule_ours _ (form_line UnitPrices tt p units costs values (order_in k order)) xs steps UnitPrices tt;
      })

  pub prices_none : choose p units costs values ≡ none → Right bytes (ok k) (no_plan 9)
  prices_none e =
      none_planned bytes k read
      (planning.prices_none p units costs values (parsed_valid bytes k read) (choose_none p units costs values e))
