-- Planning of a table gives the steps that the search finds, and none where the start is not safe. Assumes nothing.
use mathlib.Core.Path.{◌≡◌, refl, sym, ◌∙◌, subst}
use mathlib.Core.Bool.{true, false, false≢true}
use mathlib.Core.List.{List}
use Prim.Native.Nat.{ℕ, ◌+◌, ◌≤◌}
use native.Mathlib.Omega.{arith}
use lib.ListN.{length}
use Rattle.contract.specs.Res.{ok}
use Rattle.contract.specs.Parse.{parse}
use Rattle.contract.specs.declared.Form.TheVariants.{Table}
use Rattle.contract.proofs.ParsedValid.{parsed_valid}
use Rattle.exchange.specs.Deal.{Deal, State}
use Rattle.exchange.specs.Fewest.{Earliest}
use Rattle.exchange.specs.Forms.{table}
use Rattle.exchange.specs.Named.{each_once}
use Rattle.exchange.specs.Work.{work_of}
use Rattle.exchange.specs.Search.{count, most_steps, planned}
use Rattle.exchange.specs.declared.Sides.{Sides}
use Rattle.exchange.proofs.Bridge.{plan_start}
use Rattle.exchange.proofs.TestLaws.{start_safe, start_safe↔}
use Rattle.order.specs.Bytes.{all_zero, names_each}
use Rattle.planning.specs.Deals.{contract_with}
use Rattle.planning.proofs.FormRising.{form_rising}
use Rattle.planning.proofs.TablePlan.{found_earliest}
use Rattle.cases.specs.Case.{plan, no_plan, no_order}
use Rattle.cases.proofs.AllFacts.{Right}
use Rattle.cases.proofs.Planning.{none_planned, claimed_given}

-- what the search finds, as it computes; the mark is above the price
pub record Searched (p : Sides) (units costs values : List ℕ) (xs : List State) : Type 0 where
  pub safe : start_safe (table p units costs values) ≡ true
  pub counted : count (work_of (table p units costs values)) (p.price + 1) (most_steps units) ≡ length xs
  pub within : length xs ≤ most_steps units
  pub found : planned (work_of (table p units costs values)) (p.price + 1) (most_steps units) ≡ xs

module _ (bytes : List ℕ) (p : Sides) (units costs values : List ℕ) (read : parse bytes ≡ ok (contract_with Table p units costs values))
    (xs : List State) (s : Searched p units costs values xs) where
  abbrev d : Deal
  d = table p units costs values

  earliest : Earliest d xs
  earliest =
      subst (Earliest d) s.found
      (found_earliest p units costs values (parsed_valid bytes _ read) (p.price + 1) (omega arith) ((start_safe↔ d).0 s.safe) (omega (arith, s.counted, s.within)))

  pub table_plan : Right bytes (ok (contract_with Table p units costs values)) (plan no_order xs)
  unfolding names_each all_zero each_once
  table_plan =
      claimed_given bytes _ read no_order refl xs
      (record {
        named = refl;
        chosen = tt;
        ours = record { plan = earliest.fewest.plan; steps = refl; least = earliest.fewest.least; steps_go = earliest };
      })

module _ (bytes : List ℕ) (p : Sides) (units costs values : List ℕ) (read : parse bytes ≡ ok (contract_with Table p units costs values)) where
  pub table_none : start_safe (table p units costs values) ≡ false → Right bytes (ok (contract_with Table p units costs values)) (no_plan 9)
  table_none e =
      none_planned bytes _ read
      (λ σ o xs h. false≢true (sym e ∙ (start_safe↔ _).1 (plan_start _ (form_rising Table p units costs values σ (parsed_valid bytes _ read)) xs h)))
