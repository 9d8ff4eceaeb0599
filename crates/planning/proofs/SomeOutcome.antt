-- For every record and areas some outcome keeps the promise of planning. Assumes nothing.
use mathlib.Core.Path.{◌≡◌, refl, sym, subst, ◌∙◌}
use mathlib.Core.Bool.{Bool, true, false, false≢true, true≢false, and-eq-true_iff}
use mathlib.Core.Logic.{⊎_elim}
use mathlib.Core.List.{List, [], ◌∷◌, ◌++◌, map}
use Prim.Native.Nat.{ℕ, zero, suc, ◌+◌, ◌*◌, ◌^◌, ◌≤◌, ◌<◌}
use native.Mathlib.Omega.{arith}
use lib.Dec.{leb}
use lib.ListN.{length, drop, replicate, length-map}
use lib.Seq.{get_or-drop}
use borrow.Author.Tests.{leb-true, le-leb}
use Rattle.area.specs.Entries.{Bytes, entries}
use Rattle.area.specs.Filled.{Filled}
use Rattle.area.proofs.ByteLaws.{Below, below_append, below_zeros, filled_exists}
use Rattle.contract.specs.Res.{Res, refused, ok}
use Rattle.contract.specs.Contract.{Contract, limit}
use Rattle.contract.specs.Valid.{Valid, sum, in_range, within_limit}
use Rattle.contract.specs.declared.Form.{Form}
use Rattle.contract.specs.declared.Form.TheVariants.{Ladder, UnitPrices, Table}
use Rattle.exchange.specs.Chosen.{together, IsChosen}
use Rattle.exchange.specs.Deal.{Deal, State, Safe, Plan, Steps, start}
use Rattle.exchange.specs.Forms.{ladder, in_order, table}
use Rattle.exchange.specs.Possible.{Possible}
use Rattle.exchange.specs.Search.{count, most_steps, planned}
use Rattle.exchange.specs.Work.{Rising, work_of}
use Rattle.exchange.specs.declared.Objective.{Objective}
use Rattle.exchange.specs.declared.Sides.{Sides}
use Rattle.exchange.proofs.Bridge.{within_price}
use Rattle.exchange.proofs.Choice.{chosen, unsafe_plans}
use Rattle.exchange.proofs.Choice.ChosenLaws.{chosen_or_none}
use Rattle.exchange.proofs.Choice.Named.{order_length}
use Rattle.exchange.proofs.FormLaws.{ladder_rising, order_rising}
use Rattle.exchange.proofs.GivenOrder.{plan_exists}
use Rattle.exchange.proofs.Objectives.{plan_for_exists, plan_for_least}
use Rattle.exchange.proofs.TablePlan.Count.{planned_length}
use Rattle.exchange.proofs.TestLaws.{start_safe, start_safe↔, possible, possible↔}
use Rattle.line.specs.Promise as line
use Rattle.choice.specs.Promise.{numbered}
use Rattle.planning.specs.Areas.{Areas, areas, room_for, work_cleared}
use Rattle.planning.specs.Deals.{contract_with, NoPlan}
use Rattle.planning.specs.Promise.{along_order, SuccessFor}
use Rattle.planning.specs.OneAnswer.{ByteAreas, Outcome, Keeps}
use Rattle.planning.proofs.LadderPlan.{ladder_none, ladder_success}
use Rattle.planning.proofs.NamedOrder.{few_units}
use Rattle.planning.proofs.Outcome.{room}
use Rattle.planning.proofs.PricesPlan.{prices_none, chosen_success, named_bytes}
use Rattle.planning.proofs.TablePlan.{sum_is, few_rows, found_earliest, plan_counted, table_none, table_success}

price_few : (k : Contract) → Valid k → k.price ≤ limit
unfolding within_limit
price_few k v = let ((((p, _), _), _), _) = simp and-eq-true_iff at v.within in leb-true _ _ p

-- ---- steps written into areas

-- both areas filled with these steps
record Stored (xs : List State) (places sums : List ℕ) : Type 0 where
  places' : List ℕ
  sums' : List ℕ
  places_are : Filled 2 (map (λ s. s.place) xs) places places'
  sums_are : Filled 4 (map (λ s. s.paid) xs) sums sums'
  places_bytes : Bytes places'
  sums_bytes : Bytes sums'

module _ (d : Deal) (last_fits : d.last < 256 ^ 2) (price_fits : d.price < 256 ^ 4) where
  places_fit : (s : State) (xs : List State) → Steps d s xs → Below (256 ^ 2) (map (λ t. t.place) xs)
  places_fit s [] h i = omega arith
  places_fit s (t ∷ ts) h zero = omega (arith, h.0.in_deal)
  places_fit s (t ∷ ts) h (suc i) = places_fit t ts h.1 i

  sums_fit : (s : State) (xs : List State) → Steps d s xs → Below (256 ^ 4) (map (λ t. t.paid) xs)
  sums_fit s [] h i = omega arith
  sums_fit s (t ∷ ts) h zero = omega (arith, within_price _ _ h.0.safe_after)
  sums_fit s (t ∷ ts) h (suc i) = sums_fit t ts h.1 i

  -- a plan can be stored where there is room
  plan_stored : (xs : List State) → Plan d xs → (a : Areas) → ByteAreas a → length xs ≤ length (entries 2 a.places)
      → length xs ≤ length (entries 4 a.sums) → Stored xs a.places a.sums
  plan_stored xs p a b h k =
      let (places', (places_are, places_bytes)) =
      filled_exists 2 (omega arith) (map (λ s. s.place) xs) a.places b.places (places_fit start xs p.steps) (rw length-map h) in
      let (sums', (sums_are, sums_bytes)) =
      filled_exists 4 (omega arith) (map (λ s. s.paid) xs) a.sums b.sums (sums_fit start xs p.steps) (rw length-map k) in
      record {
        places' = places';
        sums' = sums';
        places_are = places_are;
        sums_are = sums_are;
        places_bytes = places_bytes;
        sums_bytes = sums_bytes;
      }

-- ---- outcomes

-- some outcome keeps the promise
abbrev pub Kept : Objective → Res Contract → Areas → Type 0
Kept aim ahead before = (o : Outcome) × Keeps aim ahead before o

module _ (a : Areas) (b : ByteAreas a) where
  zero_work : Bytes (replicate (length a.work) 0)
  zero_work = below_zeros 256 (length a.work) (omega arith)

  -- a refusal ahead of 9
  pub refused_kept : (aim : Objective) (e : ℕ) → Kept aim (refused e) a
  refused_kept aim e = (record { answer = refused e; areas = a }, record { bytes = b; plans = (refl, refl) })

  -- no plan exists
  none_kept : (aim : Objective) (k : Contract) → NoPlan k → Kept aim (ok k) a
  none_kept aim k no_plan = (
    record { answer = refused 9; areas = work_cleared a },
    record {
      bytes = record { places = b.places; sums = b.sums; order = b.order; work = zero_work };
      plans = (refl, (no_plan, refl));
    },
  )

  -- steps that are stored, and the order that these bytes name
  module _ (aim : Objective) (k : Contract) (named : List ℕ) (named_bytes : Bytes named) (xs : List State) (t : Stored xs a.places a.sums) where
    -- the areas after them
    abbrev after : Areas
    after = areas t.places' t.sums' (named ++ drop 8 a.order) (replicate (length a.work) 0)

    steps_kept : SuccessFor aim k (length xs) a after → Kept aim (ok k) a
    steps_kept s = (
      record { answer = ok (length xs); areas = after },
      record {
        bytes =
            record {
              places = t.places_bytes;
              sums = t.sums_bytes;
              order = below_append 256 named (drop 8 a.order) named_bytes (λ i. rw get_or-drop (b.order _));
              work = zero_work;
            };
        plans = s;
      },
    )

  -- ---- along one order

  -- a deal whose steps have room, with the order bytes of its contract: it is planned where it is possible, and no plan exists where not
  module _ (aim : Objective) (k : Contract) (d : Deal) (r : Rising d) (counts : (x y : ℕ) → d.holds x y ≡ leb x y) (few : d.last ≤ 1000) (low : d.price ≤ limit)
      (places_room : 2 * d.last + 1 ≤ length (entries 2 a.places)) (sums_room : 2 * d.last + 1 ≤ length (entries 4 a.sums))
      (named : List ℕ) (named_bytes : Bytes named) (blocked : (Possible d → ⊥) → NoPlan k)
      (success : (n : ℕ) (places' sums' : List ℕ) → line.Success aim d n a.places a.sums places' sums'
      → SuccessFor aim k n a (areas places' sums' (named ++ drop 8 a.order) (replicate (length a.work) 0))) where
    possible_kept : Possible d → Kept aim (ok k) a
    possible_kept p =
        let (xs, plan_for) = plan_for_exists d r counts p aim in
        let l = plan_for_least d r counts p aim xs plan_for in
        let t = plan_stored d (omega arith) (omega arith) xs l.plan a b (omega (arith, l.short)) (omega (arith, l.short)) in
        steps_kept aim k named named_bytes xs t
        (success (length xs) t.places' t.sums'
        (record { possible = p; steps = xs; plan_for = plan_for; count_is = refl; places_are = t.places_are; sums_are = t.sums_are }))

    line_kept : Kept aim (ok k) a
    line_kept = go (possible d) refl
      where
        go : (t : Bool) → possible d ≡ t → Kept aim (ok k) a
        go true e = possible_kept ((possible↔ d).0 e)
        go false e = none_kept aim k (blocked (λ p. true≢false (sym ((possible↔ d).1 p) ∙ e)))

  module _ (aim : Objective) (s : Sides) (cs vs : List ℕ) (v : Valid (contract_with Ladder s [] cs vs))
      (h : room_for (contract_with Ladder s [] cs vs) a ≡ true) where
    few_rises : length cs ≤ 1000
    unfolding in_range
    few_rises = let (_, high) = simp and-eq-true_iff at v.range in leb-true _ _ high

    ladder_kept : Kept aim (ok (contract_with Ladder s [] cs vs)) a
    ladder_kept =
        let d = ladder s cs vs in
        line_kept aim _ d (ladder_rising s cs vs) (λ x y. refl) few_rises (price_few _ v) (room _ _ a h).places (room _ _ a h).sums
        (replicate 8 0) (below_zeros 256 8 (omega arith))
        (λ blocked. ladder_none s cs vs (λ xs p. blocked ((plan_exists d (ladder_rising s cs vs) (λ x y. refl)).0 (xs, p))))
        (λ n places' sums' l. ladder_success s cs vs aim n a _ h l refl refl)

  module _ (aim : Objective) (s : Sides) (us cs vs : List ℕ) (v : Valid (contract_with UnitPrices s us cs vs))
      (h : room_for (contract_with UnitPrices s us cs vs) a ≡ true) where
    -- along the chosen order
    module _ (items : List ℕ) (e : IsChosen s us cs vs items) where
      all_units : length (together us items) ≡ sum us
      all_units = order_length us (together us items) (chosen s us cs vs items e).order ∙ sym (sum_is us)

      chosen_kept : Kept aim (ok (contract_with UnitPrices s us cs vs)) a
      chosen_kept =
          let d = in_order s cs vs (together us items) in
          let r = room _ _ a h in
          line_kept aim _ d (order_rising s cs vs (together us items)) (λ x y. refl) (omega (arith, all_units, few_units s us cs vs v)) (price_few _ v)
          (omega (arith, all_units, r.places)) (omega (arith, all_units, r.sums)) (numbered items) (named_bytes s us cs vs v items e)
          (λ blocked. unsafe_plans s us cs vs (together us items) (chosen s us cs vs items e).order (λ safe. blocked ((chosen s us cs vs items e).possible safe)))
          (λ n places' sums' l. chosen_success s us cs vs v items e aim n a _ h l refl refl)

    prices_kept : Kept aim (ok (contract_with UnitPrices s us cs vs)) a
    prices_kept =
        ⊎_elim
        (λ (items, e). chosen_kept items e)
        (λ none_chosen. none_kept aim _ (prices_none s us cs vs v none_chosen))
        (chosen_or_none s us cs vs)

  -- a form whose plans go along an order
  pub along_kept : (aim : Objective) (f : Form) → along_order f ≡ true → (s : Sides) (us cs vs : List ℕ) → Valid (contract_with f s us cs vs)
      → room_for (contract_with f s us cs vs) a ≡ true → Kept aim (ok (contract_with f s us cs vs)) a
  along_kept aim Ladder o s us cs vs v h =
      subst (λ l. Kept aim (ok (contract_with Ladder s l cs vs)) a) v.units_counted
      (ladder_kept aim s cs vs (subst (λ l. Valid (contract_with Ladder s l cs vs)) (sym v.units_counted) v) h)
  along_kept aim UnitPrices o s us cs vs v h = prices_kept aim s us cs vs v h
  along_kept aim Table o s us cs vs v h = absurd (false≢true o)

  -- ---- over the rows of a table

  module _ (s : Sides) (us cs vs : List ℕ) (v : Valid (contract_with Table s us cs vs)) (h : room_for (contract_with Table s us cs vs) a ≡ true) where
    abbrev d : Deal
    d = table s us cs vs

    -- how many steps the search counts, with a mark above the price
    abbrev steps : ℕ
    steps = count (work_of d) (s.price + 1) (most_steps us)

    found_kept : Safe d 0 0 → steps ≤ most_steps us → Kept Objective.Steps (ok (contract_with Table s us cs vs)) a
    found_kept safe few =
        let xs = planned (work_of d) (s.price + 1) (most_steps us) in
        let e = found_earliest s us cs vs v (s.price + 1) (omega arith) safe few in
        let n : length xs ≡ steps = planned_length (work_of d) (s.price + 1) (most_steps us) in
        let r = room _ _ a h in
        let t = plan_stored d (omega (arith, few_rows s us cs vs v)) (omega (arith, price_few _ v)) xs e.fewest.plan a b
        (omega (arith, n, r.places, sum_is us)) (omega (arith, n, r.sums, sum_is us)) in
        steps_kept Objective.Steps _ (replicate 8 0) (below_zeros 256 8 (omega arith)) xs t
        (table_success s us cs vs v (length xs) a _ h
        (record { plan = xs; earliest = e; steps = refl; places_are = t.places_are; sums_are = t.sums_are }) refl refl)

    pub table_kept : Kept Objective.Steps (ok (contract_with Table s us cs vs)) a
    table_kept = go (start_safe d) refl (leb steps (most_steps us)) refl
      where
        none_counted : ((Safe d 0 0 × (steps ≤ most_steps us)) → ⊥) → Kept Objective.Steps (ok (contract_with Table s us cs vs)) a
        none_counted never =
            none_kept Objective.Steps _ (table_none s us cs vs v (λ xs p. never (plan_counted s us cs vs v (s.price + 1) xs p)))

        go : (x : Bool) → start_safe d ≡ x → (y : Bool) → leb steps (most_steps us) ≡ y → Kept Objective.Steps (ok (contract_with Table s us cs vs)) a
        go true e true q = found_kept ((start_safe↔ d).0 e) (leb-true _ _ q)
        go true e false q = none_counted (λ (safe, few). true≢false (sym (le-leb _ _ few) ∙ q))
        go false e y q = none_counted (λ (safe, few). true≢false (sym ((start_safe↔ d).1 safe) ∙ e))
