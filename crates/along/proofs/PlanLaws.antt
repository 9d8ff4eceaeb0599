-- From the answers along an order to the promise, for a ladder and for unit prices. Assumes nothing.
use mathlib.Core.Path.{◌≡◌, refl, sym, ap, subst, ◌∙◌}
use mathlib.Core.Bool.{Bool, true, false}
use mathlib.Core.List.{List, ◌++◌}
use Prim.Native.Nat.{ℕ, ◌≤◌}
use native.Mathlib.Omega.{arith}
use lib.ListN.{length, replicate, take, drop}
use Rattle.std.proofs.Common.{Result, Ok, Err, Option, Some, None, IsOk, IfSome}
use Rattle.area.proofs.Laws.{column_length}
use Rattle.contract.specs.Res.{refused, ok}
use Rattle.contract.specs.Contract.{Contract, number_of}
use Rattle.contract.specs.Parse.{parse}
use Rattle.contract.specs.Valid.{Valid}
use Rattle.contract.specs.declared.Form.TheVariants.{UnitPrices}
use Rattle.contract.specs.declared.Refusal.{Refusal}
use Rattle.contract.specs.declared.Refusal.TheVariants.{Short}
use Rattle.exchange.specs.Deal.{Deal}
use Rattle.exchange.specs.declared.Objective.{Objective}
use Rattle.exchange.specs.declared.Sides.{Sides}
use Rattle.exchange.specs.declared.Unfit.{Unfit}
use Rattle.choice.specs.Promise.{ChosenItems, Chooses}
use Rattle.line.specs.Promise as line
use Rattle.line.specs.Segments.{deal_along}
use Rattle.ladder.specs.Rises.{Lies, Room, deal_in}
use Rattle.ladder.specs.declared.Ladder as ladder
use Rattle.record.specs.Find.{LadderFound, ladder_in}
use Rattle.record.specs.declared.Ladder.{Ladder}
use Rattle.order.specs.Bytes.{picked, stored_in}
use Rattle.sizes.specs.Units.{units_few}
use Rattle.sizes.proofs.UnitLaws.{units_few_lem}
use Rattle.planning.specs.Areas.{Areas, plan_areas, has_room, room_for}
use Rattle.planning.specs.Deals.{contract_with}
use Rattle.planning.specs.Found.{ladder_of}
use Rattle.planning.specs.Promise.{PlansOf}
use Rattle.planning.specs.Terms.{contract_in}
use Rattle.planning.specs.declared.PlanError.{PlanError}
use Rattle.planning.specs.declared.terms.Terms.{Terms}
use Rattle.planning.proofs.LadderFound.{lies}
use Rattle.planning.proofs.LadderPlan.{ladder_none, ladder_success}
use Rattle.planning.proofs.NamedOrder as prices
use Rattle.planning.proofs.Outcome.{room, short_said, room_said}
use Rattle.planning.proofs.TermsLaws.{contract_as, valid_as}
use Rattle.planning.proofs.PricesPlan.{prices_none, prices_suit, prices_blocked, prices_success}
use Rattle.planning.proofs.Records.{refused_plans, accepted_plans}
use Rattle.along.specs.Code.{PlansFound}
use Rattle.along.proofs.AnswerLaws.{line_steps, line_none, line_fits, none_written}
use Rattle.along.proofs.RoomLaws.{stored_eight}

-- ---- a record

-- a record that is refused
pub refused_found : (aim : Objective) (bytes : List ℕ) (a : Areas) (e : Refusal) → parse bytes ≡ refused (number_of e) → PlansFound aim bytes (Err (PlanError.Refused e)) a a
refused_found aim bytes a e q = record { plans = refused_plans aim bytes a (number_of e) q }

-- a record that says a contract
pub accepted_found : (aim : Objective) (bytes : List ℕ) (k : Contract) (r : Result ℕ PlanError) (a a' : Areas) → parse bytes ≡ ok k → PlansOf aim k r a a'
    → PlansFound aim bytes r a a'
accepted_found aim bytes k r a a' e h = record { plans = accepted_plans aim bytes k r a a' e h }

-- ---- room

-- an area is too short
pub too_short : (aim : Objective) (k : Contract) (a : Areas) → room_for k a ≡ false → PlansOf aim k (Err (PlanError.Refused Short)) a a
too_short aim k a e = record { plans = short_said aim k a e }

-- ---- a ladder

pub ladder_short : (aim : Objective) (s : List ℕ) (l : Ladder) → LadderFound s l → (a : Areas) → room_for (ladder_in s l) a ≡ false
    → PlansFound aim s (Err (PlanError.Refused Short)) a a
ladder_short aim s l f a e = accepted_found aim s (ladder_in s l) _ a a f.says (too_short aim (ladder_in s l) a e)

-- the room that a ladder needs, by the number of the code
pub ladder_room : (s : List ℕ) (l : Ladder) (a : Areas) (b : Bool) → b ≡ has_room l.count 0 a → b ≡ room_for (ladder_in s l) a
ladder_room s l a b h = h ∙ rw (column_length 4 s l.first 8 l.count) refl

module _ (s : List ℕ) (l : Ladder) (f : LadderFound s l) (x : ladder.Ladder) (ex : x ≡ ladder_of l) (p q o : List ℕ)
    (h : room_for (ladder_in s l) (plan_areas p q o) ≡ true) where
  -- its rises lie in the record, and the areas have room
  pub ladder_can : Lies x s × Room x p q
  ladder_can =
      let n = column_length 4 s l.first 8 l.count in
      let r = room _ _ _ h in
      rw ex (lies s l f, record { places_room = omega (arith, n, r.places); sums_room = omega (arith, n, r.sums) })

  module _ (aim : Objective) (p' q' : List ℕ) (r : Option ℕ) (g : line.Answers aim (deal_in x s) true (Ok r) p q p' q') where
    said_along : line.Answers aim (deal_in (ladder_of l) s) true (Ok r) p q p' q'
    said_along = subst (λ y. line.Answers aim (deal_in y s) true (Ok r) p q p' q') ex g

    pub ladder_plans : (n : ℕ) → r ≡ Some n → (o' : List ℕ) → o' ≡ replicate 8 0 ++ drop 8 o
        → PlansFound aim s (Ok n) (plan_areas p q o) (plan_areas p' q' o')
    ladder_plans n e o' eo =
        let laid = line_steps aim _ _ p q p' q' said_along n (ap Ok e) in
        accepted_found aim s (ladder_in s l) _ _ _ f.says
        (record { plans = room_said aim (ladder_in s l) (ok n) _ _ h (ladder_success _ _ _ aim n (plan_areas p q o) (plan_areas p' q' o') h laid eo refl) })

    pub ladder_impossible : r ≡ None → PlansFound aim s (Err PlanError.Impossible) (plan_areas p q o) (plan_areas p' q' o)
    ladder_impossible e =
        let (no_plan, (ep, eq)) = line_none aim _ _ p q p' q' said_along (ap Ok e) in
        accepted_found aim s (ladder_in s l) _ _ _ f.says
        (record { plans = room_said aim (ladder_in s l) (refused 9) _ _ h (refl, (ladder_none _ _ _ no_plan, none_written p q o p' q' ep eq)) })

-- ---- unit prices

module _ (t : Terms) (form : t.form ≡ UnitPrices) where
  abbrev s : Sides
  s = t.sides

  abbrev us : List ℕ
  us = t.units.now

  abbrev cs : List ℕ
  cs = t.costs.now

  abbrev vs : List ℕ
  vs = t.values.now

  abbrev prices_of : Contract
  prices_of = contract_with UnitPrices s us cs vs

  v : Valid prices_of
  v = valid_as t form

  pub few_items : length us ≤ 8
  few_items = prices.few_items s us cs vs v

  -- the promise for the contract of the terms
  said : (aim : Objective) (r : Result ℕ PlanError) (a a' : Areas) → PlansOf aim prices_of r a a' → PlansOf aim (contract_in t) r a a'
  said aim r a a' h = rw (contract_as t form) h

  -- the room that they need, by the numbers of the code
  module _ (r : Option ℕ) (value : IfSome r (λ n. n ≡ units_few us)) (u : ℕ) (some : r ≡ Some u) (a : Areas) (b : Bool) (eb : b ≡ has_room u 0 a) where
    pub prices_room : b ≡ room_for prices_of a
    prices_room = let eu : u ≡ units_few us = rw some at value in rw (eu, units_few_lem us few_items) at eb

    pub prices_short : (aim : Objective) → b ≡ false → PlansOf aim (contract_in t) (Err (PlanError.Refused Short)) a a
    prices_short aim e = said aim _ a a (too_short aim prices_of a (sym (prices_room) ∙ e))

  -- no order was found
  pub prices_impossible : (aim : Objective) (p q o : List ℕ) → room_for prices_of (plan_areas p q o) ≡ true → (r : Option (List ℕ))
      → Chooses s us cs vs r → r ≡ None → PlansOf aim (contract_in t) (Err PlanError.Impossible) (plan_areas p q o) (plan_areas p q o)
  prices_impossible aim p q o h r e f =
      let none_chosen = (subst (Chooses s us cs vs) f e).answers few_items in
      said aim _ _ _ (record { plans = room_said aim prices_of (refused 9) _ _ h (refl, (prices_none s us cs vs v none_chosen, refl)) })

  -- along the order that was found
  module _ (r : Option (List ℕ)) (e : Chooses s us cs vs r) (named : List ℕ) (f : r ≡ Some named)
      (us' cs' vs' : List ℕ) (eu : us' ≡ picked us named) (ec : cs' ≡ picked cs named) (ev : vs' ≡ picked vs named)
      (aim : Objective) (p q o p' q' : List ℕ) (h : room_for prices_of (plan_areas p q o) ≡ true)
      (x : Result (Option ℕ) Unfit)
      (g : line.Plans aim s (take (length us) us') (take (length us) cs') (take (length us) vs') x p q p' q') where
    found : ChosenItems s us cs vs named
    found = (subst (Chooses s us cs vs) f e).answers

    abbrev segments : Deal
    segments = deal_along s (take (length us) us') (take (length us) cs') (take (length us) vs')

    -- the segments fit
    answers : line.Answers aim segments true x p q p' q'
    answers =
        let suit : line.suits (take (length us) us') (take (length us) cs') (take (length us) vs') p q ≡ true =
        rw (eu, ec, ev, found.order_is) (prices_suit s us cs vs v found.items found.chosen (plan_areas p q o) h) in
        subst (λ b. line.Answers aim segments b x p q p' q') suit g

    pub prices_plans : {n : ℕ} → x ≡ Ok (Some n) → {o' : List ℕ} → o' ≡ stored_in o named
        → PlansOf aim (contract_in t) (Ok n) (plan_areas p q o) (plan_areas p' q' o')
    prices_plans {n} y {o'} eo =
        let laid = line_steps aim _ x p q p' q' answers n y in
        let stored = stored_eight o named o' (room _ _ _ h).order eo in
        said aim _ _ _
        (record { plans = room_said aim prices_of (ok n) _ _ h (prices_success s us cs vs v found.items found.chosen aim n _ _ h (rw (eu, ec, ev, found.order_is) at laid) (rw found.order_is at stored) refl) })

    pub prices_stuck : x ≡ Ok None → PlansOf aim (contract_in t) (Err PlanError.Impossible) (plan_areas p q o) (plan_areas p' q' o)
    prices_stuck y =
        let (no_plan, (ep, eq)) = line_none aim _ x p q p' q' answers y in
        let blocked = prices_blocked s us cs vs v found.items found.chosen (rw (eu, ec, ev, found.order_is) at no_plan) in
        said aim _ _ _ (record { plans = room_said aim prices_of (refused 9) _ _ h (refl, (blocked, none_written p q o p' q' ep eq)) })

    pub prices_fit : IsOk x
    prices_fit = go x refl
      where
        go : (y : Result (Option ℕ) Unfit) → x ≡ y → IsOk y
        go (Ok n) y = refl
        go (Err u) y = line_fits aim _ x p q p' q' answers u y
