-- A table planned with fewest steps. Assumes nothing.
use mathlib.Core.Path.{◌≡◌, refl, sym, ap, subst}
use mathlib.Core.Bool.{true, and-eq-true_iff}
use mathlib.Core.List.{List, [], ◌∷◌, ◌++◌, foldr}
use Prim.Native.Nat.{ℕ, ◌+◌, ◌*◌, ◌≤◌, ◌<◌}
use native.Mathlib.Omega.{arith}
use lib.ListN.{length, drop, replicate, take}
use borrow.Author.Tests.{leb-true, ltb-true, le-leb, lt-ltb, eq-eqb}
use Rattle.grid.specs.Rows.{rows_of}
use Rattle.contract.specs.Contract.{limit}
use Rattle.contract.specs.Valid.{Valid, in_range, units_in_range, within_limit, rises, sum}
use Rattle.contract.specs.declared.Form.TheVariants.{Table}
use Rattle.exchange.specs.Deal.{State, Safe, Plan}
use Rattle.exchange.specs.Fewest.{Earliest}
use Rattle.exchange.specs.Forms.{table}
use Rattle.exchange.specs.Named.{each_once}
use Rattle.exchange.specs.PlanIn.{plan_in}
use Rattle.exchange.specs.Search.{count, most_steps, planned}
use Rattle.exchange.specs.Work.{work_of}
use Rattle.exchange.specs.declared.Objective.{Objective}
use Rattle.exchange.specs.declared.Sides.{Sides}
use Rattle.exchange.proofs.PlanInLaws.{plan_in_lem}
use Rattle.exchange.proofs.TablePlan.{table_counted, table_earliest}
use Rattle.exchange.proofs.TablePlan.RowUnits.{last_pos}
use Rattle.order.specs.Bytes.{all_zero, names_each}
use Rattle.search.specs.Promise as search
use Rattle.planning.specs.Deals.{contract_with, NoPlan}
use Rattle.planning.specs.Areas.{Areas, room_for}
use Rattle.planning.specs.Promise.{Ours, Success}
use Rattle.planning.proofs.LinePlan.{Laid}
use Rattle.planning.proofs.Outcome.{room, success}

-- all units
pub sum_is : (us : List ℕ) → sum us ≡ foldr ◌+◌ 0 us
unfolding sum
sum_is [] = refl
sum_is (u ∷ us) = ap (λ (n : ℕ). u + n) (sum_is us)

-- there is a unit
some_unit : (us : List ℕ) → 0 < length us → units_in_range us ≡ true → 0 < foldr ◌+◌ 0 us
unfolding units_in_range
some_unit [] h e = absurd (omega arith)
some_unit (u ∷ us) h e =
    let ((low, _), _) = simp and-eq-true_iff at e in
    let l : 0 < u = ltb-true _ _ low in
    omega arith

module _ (s : Sides) (us cs vs : List ℕ) (v : Valid (contract_with Table s us cs vs)) where
  -- as many costs and values as rows
  rows_are : rows_of (take (length us) us) ≡ rows_of us
  rows_are = ap rows_of v.units_counted

  pub costs_rows : length cs ≡ rows_of us
  costs_rows = omega (arith, v.costs_counted, rows_are)

  pub values_rows : length vs ≡ rows_of us
  values_rows = omega (arith, v.values_counted, rows_are)

  pub few_rows : rows_of us ≤ 128
  unfolding in_range
  few_rows = let (_, high) = simp and-eq-true_iff at v.range in leb-true _ _ high

  pub few_items : length us ≤ 4
  unfolding in_range
  few_items = let (((_, high), _), _) = simp and-eq-true_iff at v.range in leb-true _ _ high

  pub price_within : s.price ≤ limit
  unfolding within_limit
  price_within = let ((((price, _), _), _), _) = simp and-eq-true_iff at v.within in leb-true _ _ price

  all_some : 0 < foldr ◌+◌ 0 us
  unfolding in_range
  all_some = let (((some, _), each), _) = simp and-eq-true_iff at v.range in some_unit us (ltb-true _ _ some) each

  two_rows : 1 < rows_of us
  two_rows = omega (arith, last_pos us all_some)

  pub cells_rise : search.Rise us cs vs
  unfolding rises
  cells_rise = record { costs_rise = v.costs_rise; values_rise = v.values_rise }

  -- the areas suit
  pub table_suits : (a : Areas) → room_for (contract_with Table s us cs vs) a ≡ true → search.suits us cs vs a.places a.sums a.work ≡ true
  unfolding search.suits
  table_suits a e =
      let r = room _ _ a e in
      let n = sum_is us in
      let w : rows_of us * (most_steps us + 1) ≤ length a.work = rw (← n) (omega (arith, r.work)) in
      rw (lt-ltb _ _ two_rows, le-leb _ _ few_rows, eq-eqb _ _ costs_rows, eq-eqb _ _ values_rows, ← n, le-leb _ _ r.places, le-leb _ _ r.sums, n, le-leb _ _ w) refl

  -- ---- what the search finds, with a mark above the price

  pub found_earliest : (mark : ℕ) → s.price < mark → Safe (table s us cs vs) 0 0
      → count (work_of (table s us cs vs)) mark (most_steps us) ≤ most_steps us
      → Earliest (table s us cs vs) (planned (work_of (table s us cs vs)) mark (most_steps us))
  found_earliest mark high =
      table_earliest s us cs vs costs_rows values_rows cells_rise.costs_rise cells_rise.values_rise mark high all_some

  pub plan_counted : (mark : ℕ) (xs : List State) → Plan (table s us cs vs) xs
      → Safe (table s us cs vs) 0 0 × (count (work_of (table s us cs vs)) mark (most_steps us) ≤ most_steps us)
  plan_counted mark = table_counted s us cs vs costs_rows values_rows cells_rise.costs_rise cells_rise.values_rise mark

  -- ---- the promise

  -- no plan over the rows
  pub table_none : ((xs : List State) → Plan (table s us cs vs) xs → ⊥) → NoPlan (contract_with Table s us cs vs)
  table_none none σ o xs p = none xs p

  -- the steps are laid out
  table_laid : (n : ℕ) (places sums places' sums' : List ℕ) → search.Success (table s us cs vs) n places sums places' sums'
      → Laid (Ours Table) (table s us cs vs) n (plan_in n places' sums') places sums places' sums'
  table_laid n places sums places' sums' h =
      let e : plan_in n places' sums' ≡ h.plan =
      rw h.steps (plan_in_lem h.plan places' sums' _ _ h.places_are.entries_are h.sums_are.entries_are) in
      subst (λ xs. Laid (Ours Table) (table s us cs vs) n xs places sums places' sums') (sym e)
      (record {
        is_ours =
            record {
              plan = h.earliest.fewest.plan;
              steps = h.steps;
              least = λ xs p. rw h.steps (h.earliest.fewest.least xs p);
              steps_go = h.earliest;
            };
        places_are = h.places_are;
        sums_are = h.sums_are;
      })

  pub table_success : (n : ℕ) (a a' : Areas) → room_for (contract_with Table s us cs vs) a ≡ true
      → search.Success (table s us cs vs) n a.places a.sums a'.places a'.sums
      → a'.order ≡ replicate 8 0 ++ drop 8 a.order → a'.work ≡ replicate (length a.work) 0
      → Success (contract_with Table s us cs vs) n a a'
  unfolding names_each all_zero each_once
  table_success n a a' e h o w =
      success Objective.Steps (contract_with Table s us cs vs) n (replicate 8 0) a a'
      (record {
        eight = refl;
        long = (room _ _ a e).order;
        order_is = o;
        names = refl;
        goes = tt;
        laid = table_laid n a.places a.sums a'.places a'.sums h;
        work_is = w;
      })
