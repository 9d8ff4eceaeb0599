-- From the answers of the planners below to the promise. Assumes nothing.
use mathlib.Core.Path.{◌≡◌, refl, sym, ap, ◌∙◌, subst}
use mathlib.Core.Bool.{Bool, true, false, ◌&&◌, and-true, true≢false}
use mathlib.Core.List.{List}
use Prim.Native.Nat.{ℕ, ◌+◌, ◌*◌, ◌≤◌, ◌<◌}
use native.Mathlib.Nat.{mul-le-mul_right}
use native.Mathlib.Omega.{arith}
use lib.Dec.{leb}
use lib.ListN.{length, replicate}
use borrow.Author.Tests.{le-leb, lt-leb}
use Rattle.std.proofs.Common.{Result, Ok, Err, Option, Some, None, IsOk, IfSome}
use Rattle.area.specs.Entries.{entries}
use Rattle.grid.specs.Rows.{rows_of}
use Rattle.contract.specs.Res.{Res, refused, ok, bind, test}
use Rattle.contract.specs.Contract.{Contract, limit}
use Rattle.contract.specs.Parse.{parse}
use Rattle.contract.specs.Valid.{Valid, sum}
use Rattle.contract.proofs.ParsedValid.ResLaws.{never, refused_inv}
use Rattle.contract.proofs.Refusals.{refusal_number}
use Rattle.contract.specs.declared.Form.{Form}
use Rattle.contract.specs.declared.Form.TheVariants.{Ladder, UnitPrices, Table}
use Rattle.contract.specs.declared.Refusal.TheVariants.{Short}
use Rattle.exchange.specs.Deal.{Deal, State, Plan}
use Rattle.exchange.specs.declared.Objective.{Objective}
use Rattle.exchange.specs.declared.Unfit.{Unfit}
use Rattle.exchange.specs.Forms.{table}
use Rattle.search.specs.Promise as search
use Rattle.planning.specs.Answer.{answer_of}
use Rattle.planning.specs.Areas.{Areas, areas, plan_areas, has_room, work_for, room_for, work_cleared}
use Rattle.planning.specs.Deals.{contract_with, unit_count}
use Rattle.planning.specs.Promise.{along_order, roomed, ahead, Plans, PlansFor, PlansOf}
use Rattle.planning.specs.Terms.{contract_in}
use Rattle.planning.specs.declared.PlanError.{PlanError}
use Rattle.planning.specs.declared.terms.Terms.{Terms}
use Rattle.planning.proofs.ReadLaws.{number_range}
use Rattle.planning.proofs.Outcome.{room, short_said, room_said}
use Rattle.planning.proofs.TermsLaws.{contract_as, valid_as}
use Rattle.planning.proofs.TablePlan.{few_items, costs_rows, few_rows, price_within, cells_rise, table_suits, table_none, table_success}
use Rattle.sizes.specs.Units.{units_few}
use Rattle.sizes.proofs.UnitLaws.{units_few_lem}
use Rattle.along.specs.Code.{PlansFound}
use Rattle.along.proofs.RoomLaws.{stored_eight}
use Rattle.order.specs.Bytes.{stored_in}
use Rattle.plans.specs.Code.{work_after}

-- ---- the work area

-- the refusals ahead of 9 have numbers up to 8
few_refusals : (bytes : List ℕ) (a : Areas) (n : ℕ) → ahead bytes a ≡ refused n → n ≤ 8
unfolding ahead
few_refusals bytes a n e = go (parse bytes) refl e
  where
    room : (k : Contract) (b : Bool) → test 8 b (ok k) ≡ refused n → n ≤ 8
    room k true e = never (sym e)
    room k false e = omega (arith, refused_inv e)

    go : (x : Res Contract) → parse bytes ≡ x → bind x (λ k. roomed k a) ≡ refused n → n ≤ 8
    go (refused m) q e = omega (arith, refused_inv e, (refusal_number bytes m q).1)
    go (ok k) q e = room k (room_for k a) e

-- the room in four areas, by that in three
work_room : (u bytes : ℕ) (p s o w : List ℕ) → has_room u bytes (areas p s o w) ≡ (has_room u 0 (plan_areas p s o) && leb bytes (length w))
unfolding has_room
work_room u bytes p s o w =
    ap (λ (b : Bool). b && leb bytes (length w))
    (sym (and-true (leb (2 * u + 1) (length (entries 2 p)) && leb (2 * u + 1) (length (entries 4 s)) && leb 8 (length o))))

-- what was planned in three areas, with the work area settled
module _ (p s o w p' s' o' w' : List ℕ) where
  -- the three areas are as they were
  others_kept : plan_areas p' s' o' ≡ plan_areas p s o → (v : List ℕ) → w' ≡ v → areas p' s' o' w' ≡ areas p s o v
  others_kept e v q =
      let ep : p' ≡ p = ap (λ (a : Areas). a.places) e in
      let es : s' ≡ s = ap (λ (a : Areas). a.sums) e in
      let eo : o' ≡ o = ap (λ (a : Areas). a.order) e in
      rw (ep, es, eo, q) refl

  settled_by : (x : Res Contract) → ((n : ℕ) → x ≡ refused n → n ≤ 8) → (r : Result ℕ PlanError) → PlansFor Objective.Steps x (answer_of r) (plan_areas p s o) (plan_areas p' s' o')
      → w' ≡ work_after r w → PlansFor Objective.Steps x (answer_of r) (areas p s o w) (areas p' s' o' w')
  settled_by (refused n) small (Err (PlanError.Refused e)) h q = (h.0, others_kept h.1 w q)
  settled_by (refused n) small (Err PlanError.Impossible) h q = absurd (omega (arith, refused_inv h.0, small n refl))
  settled_by (refused n) small (Ok m) h q = never (sym h.0)
  settled_by (ok k) small (Err (PlanError.Refused e)) h q = absurd (omega (arith, h.0, (number_range e).1))
  settled_by (ok k) small (Err PlanError.Impossible) h q = (h.0, (h.1.0, others_kept h.1.1 (replicate (length w) 0) q))
  settled_by (ok k) small (Ok n) h q =
      record {
        order = h.order;
        chosen = h.chosen;
        ours = h.ours;
        places = h.places;
        sums = h.sums;
        order_length = h.order_length;
        later_order = h.later_order;
        work = q;
      }

-- a record of a form that needs no work area
module _ (bytes : List ℕ) (along : (k : Contract) → parse bytes ≡ ok k → along_order k.form ≡ true) (p s o w : List ℕ) where
  no_work : (f : Form) (us : List ℕ) (u : ℕ) → along_order f ≡ true → work_for f us u ≡ 0
  no_work Ladder us u e = refl
  no_work UnitPrices us u e = refl
  no_work Table us u e = let z : ◌≡◌ {A = ℕ} 0 1 = cc in absurd (omega arith)

  same_room : (k : Contract) → along_order k.form ≡ true → room_for k (areas p s o w) ≡ room_for k (plan_areas p s o)
  same_room k e =
      rw (no_work k.form k.units (unit_count k) e)
      (work_room (unit_count k) 0 p s o w ∙ rw (le-leb 0 (length w) (omega arith)) (and-true (has_room (unit_count k) 0 (plan_areas p s o))))

  same_ahead : ahead bytes (areas p s o w) ≡ ahead bytes (plan_areas p s o)
  unfolding ahead
  same_ahead = go (parse bytes) refl
    where
      go : (x : Res Contract) → parse bytes ≡ x → bind x (λ k. roomed k (areas p s o w)) ≡ bind x (λ k. roomed k (plan_areas p s o))
      go (refused n) e = refl
      go (ok k) e = rw (same_room k (along k e)) refl

  pub settled : (p' s' o' w' : List ℕ) (x r : Result ℕ PlanError) → PlansFound Objective.Steps bytes x (plan_areas p s o) (plan_areas p' s' o')
      → (r ≡ x) × (w' ≡ work_after x w) → Plans (ahead bytes (areas p s o w)) (answer_of r) (areas p s o w) (areas p' s' o' w')
  settled p' s' o' w' x r h (e, q) =
      rw (e, same_ahead) (settled_by p s o w p' s' o' w' (ahead bytes (plan_areas p s o)) (few_refusals bytes (plan_areas p s o)) x h.plans q)

-- ---- the answers of the search

module _ (d : Deal) (r : Result (Option ℕ) Unfit) (p s w p' s' w' : List ℕ) (h : search.Answers d true r p s w p' s' w') where
  search_steps : (n : ℕ) → r ≡ Ok (Some n) → search.Success d n p s p' s' × (w' ≡ replicate (length w) 0)
  search_steps n e = (subst (λ x. search.Answers d true x p s w p' s' w') e h).1

  search_none : r ≡ Ok None → ((xs : List State) → Plan d xs → ⊥) × ((p' ≡ p) × ((s' ≡ s) × (w' ≡ replicate (length w) 0)))
  search_none e = (subst (λ x. search.Answers d true x p s w p' s' w') e h).1

  search_fits : IsOk r
  search_fits = go r refl
    where
      go : (x : Result (Option ℕ) Unfit) → r ≡ x → IsOk x
      go (Ok n) e = refl
      go (Err u) e = absurd (true≢false (subst (λ x. search.Answers d true x p s w p' s' w') e h).0)

-- only the work area is cleared
only_work : (p s o w p' s' w' : List ℕ) → p' ≡ p → s' ≡ s → w' ≡ replicate (length w) 0 → areas p' s' o w' ≡ work_cleared (areas p s o w)
only_work p s o w p' s' w' ep es ew = rw (ep, es, ew) refl

-- ---- a table

module _ (t : Terms) (form : t.form ≡ Table) where
  abbrev us : List ℕ
  us = t.units.now

  abbrev cs : List ℕ
  cs = t.costs.now

  abbrev vs : List ℕ
  vs = t.values.now

  abbrev table_of : Contract
  table_of = contract_with Table t.sides us cs vs

  v : Valid table_of
  v = valid_as t form

  -- the promise for the contract of the terms
  said : (r : Result ℕ PlanError) (a a' : Areas) → PlansOf Objective.Steps table_of r a a' → PlansOf Objective.Steps (contract_in t) r a a'
  said r a a' h = rw (contract_as t form) h

  -- an area is too short
  too_short : (a : Areas) → room_for table_of a ≡ false → PlansOf Objective.Steps (contract_in t) (Err (PlanError.Refused Short)) a a
  too_short a e = said _ a a (record { plans = short_said Objective.Steps table_of a e })

  -- what the search asks
  pub table_asks : search.Rise us cs vs × (length us ≤ 4) × (t.sides.price ≤ limit)
  table_asks = (cells_rise t.sides us cs vs v, few_items t.sides us cs vs v, price_within t.sides us cs vs v)

  -- the work bytes of a table are few
  pub table_work : (u : ℕ) → length cs * (2 * u + 2) ≤ 128 * (2 * u + 2)
  table_work u = mul-le-mul_right (2 * u + 2) (rw (costs_rows t.sides us cs vs v) (few_rows t.sides us cs vs v))

  -- the room that a table needs, by the numbers of the code
  module _ (r : Option ℕ) (value : IfSome r (λ n. n ≡ units_few us)) (u : ℕ) (some : r ≡ Some u) (p q o w : List ℕ)
      (b : Bool) (h : b ≡ has_room u 0 (plan_areas p q o)) where
    table_room : (has_room u 0 (plan_areas p q o) && leb (length cs * (2 * u + 2)) (length w)) ≡ room_for table_of (areas p q o w)
    table_room =
        let eu : u ≡ units_few us = rw some at value in
        subst
        (λ n. (has_room n 0 (plan_areas p q o) && leb (length cs * (2 * n + 2)) (length w)) ≡ room_for table_of (areas p q o w))
        (sym (eu ∙ units_few_lem us t.few_items))
        (rw (costs_rows t.sides us cs vs v) (sym (work_room (sum us) (rows_of us * (2 * sum us + 2)) p q o w)))

    pub areas_short : b ≡ false → PlansOf Objective.Steps (contract_in t) (Err (PlanError.Refused Short)) (areas p q o w) (areas p q o w)
    areas_short x = too_short _ (sym table_room ∙ rw (← h, x) refl)

    pub work_short : length w < length cs * (2 * u + 2) → b ≡ true
        → PlansOf Objective.Steps (contract_in t) (Err (PlanError.Refused Short)) (areas p q o w) (areas p q o w)
    work_short less x = too_short _ (sym table_room ∙ rw (← h, x, lt-leb _ _ less) refl)

    pub all_room : length cs * (2 * u + 2) ≤ length w → b ≡ true → room_for table_of (areas p q o w) ≡ true
    all_room more x = sym table_room ∙ rw (← h, x, le-leb _ _ more) refl

  -- with room
  module _ (p q o w p' q' w' : List ℕ) (h : room_for table_of (areas p q o w) ≡ true)
      (r : Result (Option ℕ) Unfit) (g : search.Plans t.sides us cs vs r p q w p' q' w') where
    answers : search.Answers (table t.sides us cs vs) true r p q w p' q' w'
    answers =
        subst (λ b. search.Answers (table t.sides us cs vs) b r p q w p' q' w') (table_suits t.sides us cs vs v (areas p q o w) h) g

    pub table_fits : IsOk r
    table_fits = search_fits _ r p q w p' q' w' answers

    pub table_plans : {n : ℕ} → r ≡ Ok (Some n) → {o' : List ℕ} → o' ≡ stored_in o (replicate 8 0)
        → PlansOf Objective.Steps (contract_in t) (Ok n) (areas p q o w) (areas p' q' o' w')
    table_plans {n} e {o'} eo =
        let (laid, zero_work) = search_steps _ r p q w p' q' w' answers n e in
        let stored = stored_eight o (replicate 8 0) o' (room _ _ _ h).order eo in
        said _ _ _
        (record { plans = room_said Objective.Steps table_of (ok n) _ _ h (table_success t.sides us cs vs v n (areas p q o w) (areas p' q' o' w') h laid stored zero_work) })

    pub table_impossible : r ≡ Ok None → PlansOf Objective.Steps (contract_in t) (Err PlanError.Impossible) (areas p q o w) (areas p' q' o w')
    table_impossible e =
        let (no_plan, (ep, (eq, ew))) = search_none _ r p q w p' q' w' answers e in
        said _ _ _
        (record {
          plans =
              room_said Objective.Steps table_of (refused 9) _ _ h (refl, (table_none t.sides us cs vs v no_plan, only_work p q o w p' q' w' ep eq ew));
        })
