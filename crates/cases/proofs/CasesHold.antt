-- All cases hold. Assumes nothing.
use mathlib.Core.Path.{◌≡◌, refl}
use mathlib.Core.List.{List}
use Prim.Native.Nat.{ℕ}
use lib.IntN.{ℤ}
use native.Mathlib.Omega.{arith}
use Rattle.grid.specs.Rows.{rows_of}
use Rattle.contract.specs.Res.{ok}
use Rattle.contract.specs.Contract.{Contract}
use Rattle.contract.specs.Parse.{parse}
use Rattle.exchange.specs.Bounds.{unclipped_upper_of, unclipped_lower_of, upper_of, lower_of, least_price, most_price}
use Rattle.exchange.specs.Chosen.{together}
use Rattle.exchange.specs.Choice.{sum_over, all_items, fits, better, best, placed, both_ends, choose}
use Rattle.exchange.specs.Forms.{along, occurs, holds_row}
use Rattle.exchange.specs.Named.{each_once}
use Rattle.exchange.specs.Search.{least_floor, need, first_of, count, forward, forwards}
use Rattle.exchange.specs.Test.{within_test, step_test}
use Rattle.exchange.proofs.TestLaws.{all_below, possible}
use Rattle.order.specs.Bytes.{all_zero, names_each}
use Rattle.planning.specs.Bounds.{bounds_in, bounds_of}
use Rattle.planning.specs.Order.{order_in}
use Rattle.session.specs.Session.{moves, awaited, done, settle, report_on}
use Rattle.session.specs.Session as session
use Rattle.cases.specs.Case.{bounds, no_order, AllHold}
use Rattle.cases.specs.Table.{cases}
use Rattle.cases.proofs.AllFacts.{◌and◌, Right, AllRight, all_hold}
use Rattle.cases.proofs.BroughtPlans.{not_accepted, session_runs}
use Rattle.cases.proofs.Ladders.{ladder_plan, ladder_none}
use Rattle.cases.proofs.OneOrder.{all_go, ends_first}
use Rattle.cases.proofs.Planning.{record_refused}
use Rattle.cases.proofs.Prices.{prices_plan, prices_none}
use Rattle.cases.proofs.Read.{all_read}
use Rattle.cases.proofs.Tables.{table_plan, table_none}
use Rattle.cases.proofs.Tests.{are_steps, is_plan}

bounds_are : (bytes : List ℕ) (k : Contract) → parse bytes ≡ ok k → (x : ℕ) (low high : ℤ)
    → bounds_in k x no_order ≡ ok (record { lower = low; upper = high }) → Right bytes (ok k) (bounds x low high)
unfolding bounds_of
bounds_are bytes k read x low high e = record { claim = tt; only = rw read e }

-- each answer is computed here, from the table's own numbers
answers : AllRight cases
unfolding unclipped_upper_of unclipped_lower_of upper_of lower_of least_price most_price along order_in together within_test step_test all_below are_steps is_plan possible all_go ends_first names_each all_zero each_once occurs sum_over all_items fits better best placed both_ends choose rows_of holds_row least_floor need first_of count forward forwards moves awaited session.fits done settle report_on
answers =
    (λ a.
    bounds_are _ _ a _ _ _ refl
    and bounds_are _ _ a _ _ _ refl
    and bounds_are _ _ a _ _ _ refl
    and ladder_plan _ _ _ _ a _ (record { safe = refl; by_rule = refl; first = refl })
    and session_runs _ _ a _ refl refl _ (refl and refl and refl and tt)
    and not_accepted _ _ a _ refl
    and not_accepted _ _ a _ refl
    and tt)
    and (λ b. ladder_none _ _ _ _ b refl and tt)
    and (λ c. ladder_none _ _ _ _ c refl and not_accepted _ _ c _ refl and not_accepted _ _ c _ refl and tt)
    and (λ d. bounds_are _ _ d _ _ _ refl and ladder_none _ _ _ _ d refl and tt)
    and (λ e. ladder_plan _ _ _ _ e _ (record { safe = refl; by_rule = refl; first = refl }) and tt)
    and (λ f.
    table_plan _ _ _ _ _ f _ (record { safe = refl; counted = refl; within = omega arith; found = refl })
    and session_runs _ _ f _ refl refl _ (refl and refl and refl and refl and tt)
    and not_accepted _ _ f _ refl
    and not_accepted _ _ f _ refl
    and tt)
    and (λ g. prices_plan _ _ _ _ _ g _ refl refl refl _ (record { safe = refl; by_rule = refl; first = refl }) and tt)
    and (λ h. prices_none _ _ _ _ _ h refl and tt)
    and (λ k. record_refused _ _ k and tt)
    and (λ k. record_refused _ _ k and tt)
    and (λ l.
    bounds_are _ _ l _ _ _ refl
    and table_plan _ _ _ _ _ l _ (record { safe = refl; counted = refl; within = omega arith; found = refl })
    and tt)
    and (λ m. prices_plan _ _ _ _ _ m _ refl refl refl _ (record { safe = refl; by_rule = refl; first = refl }) and tt)
    and (λ n. table_plan _ _ _ _ _ n _ (record { safe = refl; counted = refl; within = omega arith; found = refl }) and tt)
    and (λ n. table_none _ _ _ _ _ n refl and tt)
    and (λ n. table_plan _ _ _ _ _ n _ (record { safe = refl; counted = refl; within = omega arith; found = refl }) and tt)
    and (λ n. table_none _ _ _ _ _ n refl and tt)
    and (λ s. prices_plan _ _ _ _ _ s _ refl refl refl _ (record { safe = refl; by_rule = refl; first = refl }) and tt)
    and tt

pub cases_hold : AllHold cases
cases_hold = all_hold cases all_read answers
