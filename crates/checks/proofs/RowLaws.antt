-- A brought plan over the rows of a table, followed step by step. Assumes nothing.
use mathlib.Core.Path.{◌≡◌, refl, sym, ◌∙◌, subst}
use mathlib.Core.Logic.{◌↔◌}
use mathlib.Core.Bool.{Bool, true, false, not, false≢true}
use mathlib.Core.List.{List, []}
use Prim.Native.Nat.{ℕ, ◌+◌, ◌-◌, ◌≤◌, ◌<◌}
use native.Mathlib.Numerals.{add-one}
use native.Mathlib.Omega.{arith}
use lib.Dec.{T}
use lib.Signed.{◌≤ℤ◌}
use lib.ListN.{length, get_or}
use borrow.Author.Tests.{not-true, not-false}
use Rattle.area.specs.Entries.{entries}
use Rattle.grid.specs.Rows.{rows_of}
use Rattle.grid.specs.Units.{Small, RowUnits}
use Rattle.grid.proofs.RowLaws.{rows_pos}
use Rattle.contract.specs.Valid.{Valid}
use Rattle.contract.specs.declared.Form.TheVariants.{Table}
use Rattle.exchange.specs.Deal.{Deal, Safe, Step, Steps, Plan, start, ends}
use Rattle.exchange.specs.Forms.{table_terms, table, holds_row}
use Rattle.exchange.specs.PlanIn.{plan_in}
use Rattle.exchange.specs.Test.{bounds_at, start_test, step_test}
use Rattle.exchange.specs.Work.{Rising}
use Rattle.exchange.specs.declared.Sides.{Sides}
use Rattle.line.specs.declared.Totals.{Totals}
use Rattle.exchange.proofs.Bridge.{plan_start}
use Rattle.exchange.proofs.GivenOrder.Run.{state_eq}
use Rattle.exchange.proofs.PlanInLaws.{entry_in, plan_none, plan_step, plan_next, plan_end}
use Rattle.exchange.proofs.TestLaws.{start_test↔, step↔}
use Rattle.held.specs.Words.{holds_word}
use Rattle.held.proofs.WordLaws.{held_word}
use Rattle.line.specs.CheckCode.{Judges, passes}
use Rattle.line.proofs.CheckLaws.{passes_step}
use Rattle.planning.specs.Deals.{contract_with}
use Rattle.planning.proofs.TablePlan.{few_items, costs_rows, values_rows, few_rows}
use Rattle.planning.proofs.FormRising.{form_rising}
use Rattle.bounds.specs.Places.{row_bounds}
use Rattle.checks.specs.declared.brought.Brought.{Brought}
use Rattle.planning.specs.declared.terms.Terms.{Terms}
use Rattle.planning.proofs.TermsLaws.{valid_as}
use Rattle.bounds.proofs.BoundsLaws.{row_bounds_are}
use Rattle.checks.proofs.CheckLaws.{held_entries}

-- ---- a table

module _ (t : Terms) (form : t.form ≡ Table) where
  abbrev s : Sides
  s = t.sides

  abbrev us : List ℕ
  us = t.units.now

  abbrev cs : List ℕ
  cs = t.costs.now

  abbrev vs : List ℕ
  vs = t.values.now

  valid : Valid (contract_with Table s us cs vs)
  valid = valid_as t form

  pub some_rows : 0 < length cs
  some_rows = omega (arith, costs_rows s us cs vs valid, rows_pos us)

  pub last_value : length cs - 1 < length vs
  last_value = omega (arith, some_rows, costs_rows s us cs vs valid, values_rows s us cs vs valid)

  pub small : Small us
  small = record { items = few_items s us cs vs valid; rows = few_rows s us cs vs valid }

  -- ---- the test of a step between two rows

  module _ (held : List ℕ) (last : Totals) (units_held : RowUnits us held (rows_of us))
      (cost_is : last.cost ≡ get_or cs (length cs - 1) 0) (value_is : last.value ≡ get_or vs (length vs - 1) 0)
      {a b : ℕ} (first : a < length cs) (second : b < length cs) (p q : ℕ) where
    -- whether it is a step, by whether row b holds the units of row a
    abbrev is_step : Bool → Bool
    is_step h = step_test h (row_bounds t.sides cs vs a) (row_bounds t.sides cs vs b) p q t.sides.price

    -- no bound falls on the way to a row that holds the units of the first
    bounds_rise : T (holds_row us a b)
        → ((row_bounds t.sides cs vs a).lower ≤ℤ (row_bounds t.sides cs vs b).lower) × ((row_bounds t.sides cs vs a).upper ≤ℤ (row_bounds t.sides cs vs b).upper)
    bounds_rise h =
        let lc = costs_rows t.sides us cs vs valid in
        let lv = values_rows t.sides us cs vs valid in
        let r = form_rising Table t.sides us cs vs [] valid in
        let i : a ≤ rows_of us - 1 = omega arith in
        let j : b ≤ rows_of us - 1 = omega arith in
        rw (lc, lv) (r.lower_rises a b i j h, r.upper_rises a b i j h)

    -- the tests that line makes, and whether row b holds the units of row a
    module _ {r : Bool} (e : r ≡ passes t.sides last (get_or cs a 0) (get_or vs b 0) p q) where
      decides : (h : Bool)
          → (T h → ((row_bounds t.sides cs vs a).lower ≤ℤ (row_bounds t.sides cs vs b).lower) × ((row_bounds t.sides cs vs a).upper ≤ℤ (row_bounds t.sides cs vs b).upper))
          → (not r ≡ true → false ≡ is_step h) × (not r ≡ false → h ≡ is_step h)
      unfolding step_test
      decides true rise =
          let f = e ∙ passes_step t.sides last (get_or cs a 0) (get_or vs b 0) p q (row_bounds t.sides cs vs a) (row_bounds t.sides cs vs b) (rw value_is refl) (rw cost_is refl) (rise tt).0 (rise tt).1 in
          (λ y. sym (not-true r y) ∙ f, λ y. sym (not-false r y) ∙ f)
      decides false rise = (λ _. refl, λ _. refl)

      pub fails : not r ≡ true → false ≡ is_step (holds_row us a b)
      fails y = (decides (holds_row us a b) bounds_rise).0 y

      -- the words of the rows compare their units
      pub held_decides : not r ≡ false → {h : Bool} → h ≡ holds_word 4 (get_or held a 0) (get_or held b 0) → h ≡ is_step (holds_row us a b)
      held_decides y k =
          let lc = costs_rows t.sides us cs vs valid in
          let few : Small us = record { items = few_items t.sides us cs vs valid; rows = few_rows t.sides us cs vs valid } in
          k
          ∙ rw (units_held.word_at a (omega arith), units_held.word_at b (omega arith)) (held_word us a b few)
          ∙ (decides (holds_row us a b) bounds_rise).1 y

  -- ---- a brought plan, step by step

  module _ (b : Brought) where
    abbrev n : ℕ
    n = b.count

    abbrev places : List ℕ
    places = b.places.now

    abbrev sums : List ℕ
    sums = b.sums.now

    -- the deal of the table
    abbrev d : Deal
    d = table s us cs vs

    -- the start is safe, the first i entries are steps, and the row and the payment stand after them
    pub record Passed (row paid i : ℕ) : Type 0 where
      pub start_safe : Safe d 0 0
      pub within : i ≤ n
      pub at : row < length cs
      pub steps : Steps d start (plan_in i places sums)
      pub state_is : ends start (plan_in i places sums) ≡ record { place = row; paid = paid }

    none : (Plan d (plan_in n places sums) → ⊥) → Judges d (plan_in n places sums) false
    none f = record { yes = λ e. absurd (false≢true e); no = λ _. f }

    places_hold : n ≤ length (entries 2 places)
    places_hold = (held_entries n places sums b.held).0

    sums_hold : n ≤ length (entries 4 sums)
    sums_hold = (held_entries n places sums b.held).1

    rising : Rising d
    rising = form_rising Table s us cs vs [] valid

    -- the test of the start
    module _ {r : Bool} (e : r ≡ start_test s.price (get_or cs (length cs - 1) 0) (get_or cs 0 0) (get_or vs (length cs - 1) 0) (get_or vs 0 0)) where
      start_test_lem : (r ≡ true) ↔ Safe d 0 0
      start_test_lem = rw (e, costs_rows s us cs vs valid) (start_test↔ (table_terms s us cs vs) (holds_row us))

      -- no plan sets out from an unsafe start
      pub unsafe_start : not r ≡ true → Judges d (plan_in n places sums) false
      unsafe_start y = none (λ p. subst T (sym (start_test_lem.1 (plan_start d rising _ p)) ∙ not-true r y) tt)

      pub started : not r ≡ false → Safe d 0 0
      started y = start_test_lem.0 (not-false r y)

    pub passed_start : Safe d 0 0 → Passed 0 0 0
    passed_start safe =
        record {
          start_safe = safe;
          within = omega arith;
          at = some_rows;
          steps = rw (plan_none places sums) tt;
          state_is = rw (plan_none places sums);
        }

    module _ {row paid i : ℕ} (g : Passed row paid i) where
      module _ (h : i < n) {next sum : ℕ} (ep : next ≡ get_or (entries 2 places) i 0) (es : sum ≡ get_or (entries 4 sums) i 0) where
        entry : entry_in places sums i ≡ record { place = next; paid = sum }
        entry = state_eq (sym ep) (sym es)

        -- a plan has a step here
        step_here : Plan d (plan_in n places sums) → Step d (record { place = row; paid = paid }) (record { place = next; paid = sum })
        step_here p = rw (← g.state_is, ← entry) (plan_step places sums n places_hold sums_hold (Step d) start p.steps i h)

        pub above : length cs - 1 < next → Judges d (plan_in n places sums) false
        above l = none (λ p. let q = (step_here p).in_deal in omega (arith, costs_rows s us cs vs valid))

        module _ (l : next ≤ length cs - 1) where
          pub next_within : next < length cs
          next_within = omega (arith, some_rows)

          module _ {r : Bool} (e : r ≡ step_test (holds_row us row next) (row_bounds s cs vs row) (row_bounds s cs vs next) paid sum s.price) where
            -- the test of the step
            tested : (r ≡ true) ↔ Step d (record { place = row; paid = paid }) (record { place = next; paid = sum })
            tested =
                let q = step↔ d rising g.start_safe (record { place = row; paid = paid }) (record { place = next; paid = sum }) (omega (arith, costs_rows s us cs vs valid)) in
                let f : r ≡ step_test (holds_row us row next) (bounds_at d row) (bounds_at d next) paid sum s.price =
                e ∙ rw (row_bounds_are t form row, row_bounds_are t form next) in
                (λ y. q.0 (sym f ∙ y), λ y. f ∙ q.1 y)

            pub no_step : not r ≡ true → Judges d (plan_in n places sums) false
            no_step y = none (λ p. subst T (sym (tested.1 (step_here p)) ∙ not-true r y) tt)

            pub passed_next : not r ≡ false → Passed next sum (i + 1)
            passed_next y =
                let hp : i < length (entries 2 places) = omega (arith, places_hold) in
                let hs : i < length (entries 4 sums) = omega (arith, sums_hold) in
                rw (add-one i)
                (record {
                  start_safe = g.start_safe;
                  within = h;
                  at = next_within;
                  steps = plan_next places sums i hp hs (Step d) start g.steps (rw (g.state_is, entry) (tested.0 (not-false r y)));
                  state_is = plan_end places sums i hp hs start ∙ entry;
                })
