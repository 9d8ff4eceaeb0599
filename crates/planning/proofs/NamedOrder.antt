-- Unit prices along the order that bytes name, as segments: the deal along them is the contract's, and they fit the planner's numbers.
-- Assumes nothing.
use mathlib.Core.Path.{◌≡◌, refl, sym, ◌∙◌}
use mathlib.Core.Bool.{true, and-eq-true_iff}
use mathlib.Core.List.{List, [], ◌∷◌, map}
use Prim.Native.Nat.{ℕ, ◌-◌, zero, suc, ◌≤◌, ◌<◌}
use native.Mathlib.Omega.{arith}
use lib.ListN.{length, get_or, take, length-map}
use lib.Seq.{length-take-le}
use borrow.Author.Tests.{leb-true, ltb-true, lt-ltb}
use Rattle.contract.specs.Contract.{limit}
use Rattle.contract.specs.Valid.{Valid, in_range, units_in_range, within_limit, amounts_within, total, sum}
use Rattle.contract.specs.declared.Form.TheVariants.{UnitPrices}
use Rattle.exchange.specs.Forms.{in_order, Order}
use Rattle.exchange.specs.Chosen.{at, together}
use Rattle.exchange.specs.Named.{each_once}
use Rattle.exchange.specs.declared.Sides.{Sides}
use Rattle.exchange.proofs.Choice.Deal.{last_is}
use Rattle.exchange.proofs.Choice.Named.{each_below, order_length, named_order}
use Rattle.line.specs.Segments.{spread, deal_along, all_have, fits, total_of}
use Rattle.order.specs.Bytes.{items_in, picked}
use Rattle.order.proofs.NamedLaws.{picked_is, picked_take}
use Rattle.planning.specs.Deals.{contract_with}
use Rattle.planning.proofs.SegmentJoin.{spread_items, along_map, order_deal, fit, total_items}
use Rattle.planning.proofs.TablePlan.{sum_is}

-- every item has units
pub units_some : (us : List ℕ) → units_in_range us ≡ true → (j : ℕ) → j < length us → 0 < at us j
unfolding units_in_range
units_some [] e j h = absurd (omega arith)
units_some (u ∷ us) e zero h = let ((low, _), _) = simp and-eq-true_iff at e in ltb-true _ _ low
units_some (u ∷ us) e (suc j) h = let (_, rest) = simp and-eq-true_iff at e in units_some us rest j (omega arith)

-- so items that bytes name have units
have : (us bs : List ℕ) → units_in_range us ≡ true → ((i : ℕ) → i < length bs → (0 < get_or bs i 0) × (get_or bs i 0 ≤ length us))
    → all_have (map (at us) (map (λ b. b - 1) bs)) ≡ true
unfolding all_have
have us [] e h = refl
have us (b ∷ bs) e h =
    let (low, high) = h 0 (omega arith) in
    let below : b - 1 < length us = omega arith in
    rw (lt-ltb _ _ (units_some us e (b - 1) below)) (have us bs e (λ i l. h (suc i) (omega arith)))

module _ (s : Sides) (us cs vs : List ℕ) (v : Valid (contract_with UnitPrices s us cs vs)) where
  pub few_items : length us ≤ 8
  unfolding in_range
  few_items = let (((_, high), _), _) = simp and-eq-true_iff at v.range in leb-true _ _ high

  pub units_in_range_lem : units_in_range us ≡ true
  unfolding in_range
  units_in_range_lem = let ((_, each), _) = simp and-eq-true_iff at v.range in each

  pub few_units : sum us ≤ 1000
  unfolding in_range
  few_units = let (_, high) = simp and-eq-true_iff at v.range in leb-true _ _ high

  cost_few : total us cs ≤ limit
  unfolding within_limit amounts_within
  cost_few = let ((_, (_, costs)), _) = simp and-eq-true_iff at v.within in leb-true _ _ costs

  value_few : total us vs ≤ limit
  unfolding within_limit amounts_within
  value_few = let (_, (_, values)) = simp and-eq-true_iff at v.within in leb-true _ _ values

  -- along bytes that name each item once
  module _ (bytes : List ℕ) (long : length us ≤ length bytes) (once : each_once (length us) (take (length us) bytes) ≡ true) where
    abbrev bs : List ℕ
    bs = take (length us) bytes

    abbrev items : List ℕ
    items = items_in (length us) bytes

    abbrev σ : List ℕ
    σ = together us items

    bytes_long : length bs ≡ length us
    bytes_long = length-take-le (length us) bytes long

    within : (i : ℕ) → i < length bs → (0 < get_or bs i 0) × (get_or bs i 0 ≤ length us)
    within = each_below (length us) bs (omega (arith, bytes_long)) once

    pub is_order : Order us σ
    is_order = named_order us bs bytes_long once

    -- the amounts that the bytes pick
    pub picks : (xs : List ℕ) → take (length us) (picked xs bytes) ≡ map (at xs) items
    picks xs = picked_take (length us) xs bytes ∙ picked_is xs bs (λ i l. (within i l).0)

    pub named_deal : deal_along s (take (length us) (picked us bytes)) (take (length us) (picked cs bytes)) (take (length us) (picked vs bytes)) ≡ in_order s cs vs σ
    named_deal = rw (picks us, picks cs, picks vs) (order_deal s us cs vs items)

    -- all units, and totals that do not depend on the order
    all_units : length σ ≡ sum us
    all_units = order_length us σ is_order ∙ sym (sum_is us)

    spread_length : (xs : List ℕ) → length (spread (map (at us) items) (map (at xs) items)) ≡ sum us
    spread_length xs = rw (spread_items us xs items, length-map σ (at xs)) all_units

    same_total : (xs : List ℕ) → length xs ≡ length us → total_of (map (at us) items) (map (at xs) items) ≡ total us xs
    same_total xs e =
        rw (spread_items us xs items, length-map σ (at xs), along_map (at xs) σ (length σ)) (last_is us (at xs) σ is_order ∙ total_items us xs e)

    pub named_units : length (spread (take (length us) (picked us bytes)) (take (length us) (picked cs bytes))) ≡ sum us
    named_units = rw (picks us, picks cs) (spread_length cs)

    pub named_fits : fits (take (length us) (picked us bytes)) (take (length us) (picked cs bytes)) (take (length us) (picked vs bytes)) ≡ true
    named_fits =
        rw (picks us, picks cs, picks vs)
        (fit (map (at us) items) (map (at cs) items) (map (at vs) items) (length-map items (at cs) ∙ sym (length-map items (at us)))
        (length-map items (at vs) ∙ sym (length-map items (at us))) (have us bs units_in_range_lem within)
        (omega (arith, spread_length cs, few_units))
        (omega (arith, same_total cs v.costs_counted, cost_few)) (omega (arith, same_total vs v.values_counted, value_few)))
