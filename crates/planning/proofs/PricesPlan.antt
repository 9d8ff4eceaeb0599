-- Unit prices planned along the chosen order. Assumes nothing.
use mathlib.Core.Path.{◌≡◌, refl, ◌∙◌}
use mathlib.Core.Bool.{true}
use mathlib.Core.Logic.{dite}
use mathlib.Core.List.{List, [], ◌++◌, map, append_assoc, append-nil}
use Prim.Native.Nat.{ℕ, ◌-◌, suc, ◌≤◌, ◌<◌}
use native.Mathlib.Decide.{dec_lt}
use native.Mathlib.Omega.{arith}
use lib.ListN.{length, take, drop, replicate, length-append, length-replicate, length-map, get_or-eq_default}
use lib.Seq.{take_at}
use borrow.Author.Tests.{le-leb}
use Rattle.area.specs.Entries.{Bytes}
use Rattle.area.proofs.ByteLaws.{below_append, below_zeros}
use Rattle.contract.specs.Valid.{Valid}
use Rattle.contract.specs.declared.Form.TheVariants.{UnitPrices}
use Rattle.exchange.specs.Deal.{Deal, State, Plan}
use Rattle.exchange.specs.Forms.{in_order}
use Rattle.exchange.specs.Chosen.{together, IsChosen}
use Rattle.exchange.specs.Named.{each_once}
use Rattle.exchange.specs.declared.Objective.{Objective}
use Rattle.exchange.specs.declared.Sides.{Sides}
use Rattle.exchange.proofs.Choice.{chosen, none_plans, unsafe_plans}
use Rattle.exchange.proofs.Choice.Named.{each_once_lem, each_below}
use Rattle.exchange.proofs.FormLaws.{order_rising}
use Rattle.exchange.proofs.GivenOrder.{plan_exists}
use Rattle.choice.specs.Promise.{numbered}
use Rattle.line.specs.Segments.{deal_along}
use Rattle.line.specs.Promise as line
use Rattle.order.specs.Bytes.{names_each, items_in, picked}
use Rattle.order.proofs.NamedLaws.{names_numbered, items_numbered}
use Rattle.planning.specs.Deals.{contract_with, NoPlan}
use Rattle.planning.specs.Order.{order_in}
use Rattle.planning.specs.Areas.{Areas, room_for}
use Rattle.planning.specs.Promise.{SuccessFor}
use Rattle.planning.proofs.LinePlan.{line_laid}
use Rattle.planning.proofs.Outcome.{room, success}
use Rattle.planning.proofs.NamedOrder.{few_items, units_in_range_lem, units_some, named_deal, named_units, named_fits}

module _ (s : Sides) (us cs vs : List ℕ) (v : Valid (contract_with UnitPrices s us cs vs)) where
  -- there is no chosen order
  pub prices_none : ((items : List ℕ) → IsChosen s us cs vs items → ⊥) → NoPlan (contract_with UnitPrices s us cs vs)
  prices_none none_chosen = none_plans s us cs vs (units_some us (units_in_range_lem s us cs vs v)) none_chosen

  -- of the chosen order
  module _ (items : List ℕ) (e : IsChosen s us cs vs items) where
    all : length items ≡ length us
    all = (chosen s us cs vs items e).all

    abbrev named : List ℕ
    named = numbered items

    eight : length named ≡ 8
    eight =
        let h = few_items s us cs vs v in
        omega (arith, all, length-append (map suc items) (replicate (8 - length items) 0), length-map items suc, length-replicate {A = ℕ} (8 - length items) 0)

    numbers : take (length us) named ≡ map suc items
    numbers = take_at (map suc items) (replicate (8 - length items) 0) (length us) (length-map items suc ∙ all)

    pub once : each_once (length us) (take (length us) named) ≡ true
    once = rw numbers (each_once_lem items (length us) (chosen s us cs vs items e).once)

    pub long : length us ≤ length named
    long = let h = few_items s us cs vs v in omega (arith, eight)

    pub named_bytes : Bytes named
    named_bytes =
        below_append 256 (map suc items) (replicate (8 - length items) 0) small (below_zeros 256 (8 - length items) (omega arith))
      where
        small : Bytes (map suc items)
        small i =
            dite
            (dec_lt i (length (map suc items)))
            (λ h.
            let at_most = (each_below (length us) (map suc items) (omega (arith, length-map items suc, all)) (each_once_lem items (length us) (chosen s us cs vs items e).once) i h).1 in
            omega (arith, few_items s us cs vs v))
            (λ (h : i < length (map suc items) → ⊥). rw (get_or-eq_default (map suc items) 0 {n = i} (omega arith)) (omega arith))

    -- the bytes name the items, whatever follows them
    same_items : (rest : List ℕ) → items_in (length us) (named ++ rest) ≡ items
    same_items rest = rw (append_assoc, ← all) (items_numbered items (replicate (8 - length items) 0 ++ rest))

    names : (rest : List ℕ) → names_each (length us) (named ++ rest) ≡ true
    names rest =
        rw (← all)
        (names_numbered (length items) (map suc items) (let h = few_items s us cs vs v in omega (arith, all)) (length-map items suc)
        (rw all (each_once_lem items (length us) (chosen s us cs vs items e).once)) rest)

    abbrev σ : List ℕ
    σ = together us (items_in (length us) named)

    abbrev segments : Deal
    segments = deal_along s (take (length us) (picked us named)) (take (length us) (picked cs named)) (take (length us) (picked vs named))

    same_deal : segments ≡ in_order s cs vs σ
    same_deal = named_deal s us cs vs v named long once

    -- the areas suit
    pub prices_suit : (a : Areas) → room_for (contract_with UnitPrices s us cs vs) a ≡ true
        → line.suits (take (length us) (picked us named)) (take (length us) (picked cs named)) (take (length us) (picked vs named)) a.places a.sums ≡ true
    unfolding line.suits
    prices_suit a h =
        let r = room _ _ a h in
        rw (named_fits s us cs vs v named long once, named_units s us cs vs v named long once, le-leb _ _ r.places, le-leb _ _ r.sums) refl

    -- no plan along the chosen order, no plan in any
    pub prices_blocked : ((xs : List State) → Plan segments xs → ⊥) → NoPlan (contract_with UnitPrices s us cs vs)
    prices_blocked no_plan =
        let τ = together us items in
        let same : items_in (length us) named ≡ items = rw (← append-nil named) (same_items []) in
        unsafe_plans s us cs vs τ (chosen s us cs vs items e).order
        (λ safe.
        let (xs, p) = (plan_exists (in_order s cs vs τ) (order_rising s cs vs τ) (λ a b. refl)).1 ((chosen s us cs vs items e).possible safe) in
        no_plan xs (rw (same_deal, same) p))

    -- the steps are laid out along the chosen order
    pub chosen_success : (aim : Objective) (n : ℕ) (a a' : Areas) → room_for (contract_with UnitPrices s us cs vs) a ≡ true
        → line.Success aim (in_order s cs vs (together us items)) n a.places a.sums a'.places a'.sums
        → a'.order ≡ named ++ drop 8 a.order → a'.work ≡ replicate (length a.work) 0
        → SuccessFor aim (contract_with UnitPrices s us cs vs) n a a'
    unfolding order_in
    chosen_success aim n a a' h l o w =
        let d = in_order s cs vs (together us items) in
        let rest = drop 8 a.order in
        success aim (contract_with UnitPrices s us cs vs) n named a a'
        (record {
          eight = eight;
          long = (room _ _ a h).order;
          order_is = o;
          names = names rest;
          goes = rw (same_items rest) e;
          laid = rw (same_items rest) (line_laid UnitPrices d (order_rising s cs vs (together us items)) (λ x y. refl) (λ xs b. b) aim n _ _ _ _ l);
          work_is = w;
        })

    -- the same by segments
    pub prices_success : (aim : Objective) (n : ℕ) (a a' : Areas) → room_for (contract_with UnitPrices s us cs vs) a ≡ true
        → line.Success aim segments n a.places a.sums a'.places a'.sums
        → a'.order ≡ named ++ drop 8 a.order → a'.work ≡ replicate (length a.work) 0
        → SuccessFor aim (contract_with UnitPrices s us cs vs) n a a'
    prices_success aim n a a' h l =
        let same : items_in (length us) named ≡ items = rw (← append-nil named) (same_items []) in
        chosen_success aim n a a' h (rw (same_deal, same) at l)
