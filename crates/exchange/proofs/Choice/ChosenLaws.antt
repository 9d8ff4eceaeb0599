-- The choice gives the paper's order, and only that one: the running sums of the choice against the bounds of the deal along the order.
-- Assumes nothing.
use mathlib.Core.Path.{◌≡◌, refl, sym, ap, ◌∙◌}
use mathlib.Core.Bool.{Bool, true, false, not, cond}
use mathlib.Core.Logic.{◌↔◌, ◌⊎◌, inl, inr, dite}
use mathlib.Core.List.{List, [], ◌∷◌, ◌++◌, reverse, reverse-append, append_assoc}
use mathlib.Core.Option.{Option, none, some}
use Prim.Native.Nat.{ℕ, ◌+◌, ◌-◌, ◌≤◌, ◌<◌}
use native.Mathlib.Decide.{ℕ_discrete}
use native.Mathlib.Omega.{arith}
use lib.Dec.{leb, eqb}
use lib.IntN.{pos}
use lib.ListN.{length, length-append, length-reverse}
use lib.Signed.{◌≤ℤ◌}
use borrow.Author.Tests.{leb-true, le-leb, lt-leb, leb-false, not-true, eqb-true, eq-eqb}
use Rattle.exchange.specs.Deal.{Deal, unclipped}
use Rattle.exchange.specs.Forms.{order_terms, occurs, Order}
use Rattle.exchange.specs.Chosen.{slack, at, together, Next, MayFollow, MayPrecede, IsChosen}
use Rattle.exchange.specs.Choice.{has_room, front, back, placed, both_ends, choose}
use Rattle.exchange.specs.declared.Sides.{Sides}
use Rattle.exchange.proofs.Choice.Sums.{occurs_append, occurs_reverse, once_order, tally_length, tally_once}
use Rattle.exchange.proofs.Choice.Best.{Fits, Found}
use Rattle.exchange.proofs.Choice.End.{together_append}
use Rattle.exchange.proofs.Choice.Both.{together_reverse, front_parts, back_parts, items_once}
use Rattle.exchange.proofs.Choice.Slack.{front_room, back_room}
use Rattle.exchange.proofs.Choice.OneByOne.{again_some, again_so, placed_found, placed_is, found_next, next_found}

module _ (p : Sides) (units costs values σ : List ℕ) where
  -- the deal along the order, by the unclipped bounds
  abbrev d : Deal
  d = unclipped (order_terms p costs values σ) leb

  -- ---- who may be next, from either end, along an order that begins, or ends, with what is placed

  pub may_follow : (done rest : List ℕ) → σ ≡ together units done ++ rest → Order units σ → (x : ℕ)
      → MayFollow d units costs values done x ↔ ((x < length units) × Fits (front p units costs values) done x)
  may_follow done rest q o x =
      let room : (has_room (front p units costs values) done x ≡ true) ↔ (pos (at values x) ≤ℤ slack d (length (together units done))) =
      rw q (front_room units done rest p costs values x (rw q at o)) in (
        λ m. (m.item, record { mine = le-leb _ _ m.first; new = m.left; room = leb-true _ _ (room.1 m.room) }),
        λ (b, f). record { item = b; left = f.new; first = leb-true _ _ f.mine; room = room.0 (le-leb _ _ f.room) },
      )

  pub may_precede : (done rest : List ℕ) → σ ≡ rest ++ reverse (together units done) → (x : ℕ)
      → MayPrecede d units costs values done x ↔ ((x < length units) × Fits (back p units costs values) done x)
  may_precede done rest q x =
      let there : length σ - length (together units done) ≡ length rest =
      omega (arith, ap length q, length-append rest (reverse (together units done)), length-reverse (together units done)) in
      let room : (has_room (back p units costs values) done x ≡ true) ↔ (pos (at costs x) ≤ℤ slack d (length σ - length (together units done))) =
      rw (there, q) (back_room units done rest p costs values x) in (
        λ m. (m.item, record { mine = ap not (lt-leb _ _ m.other); new = m.left; room = leb-true _ _ (room.1 m.room) }),
        λ (b, f).
            record {
              item = b;
              left = f.new;
              other = leb-false _ _ (not-true _ f.mine);
              room = room.0 (le-leb _ _ f.room);
            },
      )

-- ---- the items in their order

module _ (p : Sides) (units costs values items firsts others : List ℕ) (joined : items ≡ firsts ++ reverse others)
    (once : (x : ℕ) → x < length units → occurs x items ≡ 1) where
  abbrev order : List ℕ
  order = together units items

  abbrev along : Deal
  along = d p units costs values order

  is_order : Order units order
  is_order = once_order units items once

  -- it begins with the units of the firsts
  begins : (done rest : List ℕ) → done ++ rest ≡ firsts → order ≡ together units done ++ together units (rest ++ reverse others)
  begins done rest e =
      rw joined (rw (← e, append_assoc done rest (reverse others)) (together_append units done (rest ++ reverse others)))

  -- and ends with the units of the others, the first of them last
  ends : (done rest : List ℕ) → done ++ rest ≡ others → order ≡ together units (firsts ++ reverse rest) ++ reverse (together units done)
  ends done rest e =
      let split : items ≡ (firsts ++ reverse rest) ++ reverse done =
      joined ∙ rw (← e, reverse-append done rest) (sym (append_assoc firsts (reverse rest) (reverse done))) in
      rw split (rw (← (together_reverse units done)) (together_append units (firsts ++ reverse rest) (reverse done)))

  -- the items found from each end are the paper's
  module _ (l : List ℕ) (done rest : List ℕ) (j : ℕ) (e : done ++ (j ∷ rest) ≡ l) where
    next_first : l ≡ firsts → Found (front p units costs values) done (length units) j
        ↔ Next (MayFollow along units costs values done) (λ x. at costs x - at values x) j
    next_first q =
        let may = may_follow p units costs values order done (together units ((j ∷ rest) ++ reverse others)) (begins done (j ∷ rest) (e ∙ q)) is_order in (
          found_next (front p units costs values) (front_parts p units costs values) done (MayFollow along units costs values done) may j,
          next_found (front p units costs values) (front_parts p units costs values) done (MayFollow along units costs values done) may j,
        )

    next_last : l ≡ others → Found (back p units costs values) done (length units) j
        ↔ Next (MayPrecede along units costs values done) (λ x. at values x - at costs x) j
    next_last q =
        let may = may_precede p units costs values order done (together units (firsts ++ reverse (j ∷ rest))) (ends done (j ∷ rest) (e ∙ q)) in (
          found_next (back p units costs values) (back_parts p units costs values) done (MayPrecede along units costs values done) may j,
          next_found (back p units costs values) (back_parts p units costs values) done (MayPrecede along units costs values done) may j,
        )

module _ (p : Sides) (units costs values items : List ℕ) where
  -- the items that the choice gives are in the chosen order
  pub choose_is_chosen : choose p units costs values ≡ some items → IsChosen p units costs values items
  unfolding choose both_ends
  choose_is_chosen e = go (eqb (length (both_ends p units costs values)) (length units)) refl e
    where
      f : List ℕ
      f = placed (front p units costs values) (length units)

      b : List ℕ
      b = placed (back p units costs values) (length units)

      go : (t : Bool) → eqb (length (both_ends p units costs values)) (length units) ≡ t → cond t (some (both_ends p units costs values)) none ≡ some items
          → IsChosen p units costs values items
      go true h q =
          let same : items ≡ f ++ reverse b = cc in
          let once : (x : ℕ) → x < length units → occurs x items ≡ 1 = rw same (items_once p units costs values (eqb-true _ _ h)) in
          record {
            firsts = f;
            others = b;
            joined = same;
            each_once = once;
            forwards =
                again_so _ _ f (λ done rest j s r. (next_first p units costs values items f b same once f done rest j s refl).0 r) [] f refl
                (placed_found (front p units costs values) (length units));
            backwards =
                again_so _ _ b (λ done rest j s r. (next_last p units costs values items f b same once b done rest j s refl).0 r) [] b refl
                (placed_found (back p units costs values) (length units));
          }
      go false h q = let z : ◌≡◌ {A = ℕ} 0 1 = cc in absurd (omega arith)

  -- items in the chosen order are those that the choice gives
  module _ (c : IsChosen p units costs values items) where
    occurs_both : (x : ℕ) → occurs x items ≡ occurs x c.firsts + occurs x c.others
    occurs_both x =
        omega (arith, ap (occurs x) c.joined, occurs_append x c.firsts (reverse c.others), occurs_reverse x c.others)

    is_first : (x : ℕ) → 0 < occurs x c.firsts → (x < length units) × (at values x ≤ at costs x)
    is_first x h = let (b, m) = again_some _ [] c.firsts c.forwards x h in (m.may.item, m.may.first)

    is_other : (x : ℕ) → 0 < occurs x c.others → (x < length units) × (at costs x < at values x)
    is_other x h = let (b, m) = again_some _ [] c.others c.backwards x h in (m.may.item, m.may.other)

    pub chosen_all : length items ≡ length units
    chosen_all = sym (tally_length (length units) items below) ∙ tally_once items (length units) c.each_once
      where
        below : (x : ℕ) → 0 < occurs x items → x < length units
        below x h =
            dite
            (ℕ_discrete (occurs x c.firsts) 0)
            (λ z. (is_other x (omega (arith, occurs_both x, z))).0)
            (λ (z : occurs x c.firsts ≡ 0 → ⊥). (is_first x (omega arith)).0)

    parts : length c.firsts + length c.others ≡ length units
    parts =
        omega (arith, chosen_all, ap length c.joined, length-append c.firsts (reverse c.others), length-reverse c.others)

    firsts_placed : placed (front p units costs values) (length units) ≡ c.firsts
    firsts_placed =
        placed_is (front p units costs values) c.firsts (omega (arith, parts))
        (again_so _ _ c.firsts
        (λ done rest j s r. (next_first p units costs values items c.firsts c.others c.joined c.each_once c.firsts done rest j s refl).1 r)
        [] c.firsts refl c.forwards)
        (λ x h t.
        let i = is_other x (omega (arith, occurs_both x, c.each_once x h, t.new)) in
        omega (arith, i.1, leb-true (at values x) (at costs x) t.mine))

    others_placed : placed (back p units costs values) (length units) ≡ c.others
    others_placed =
        placed_is (back p units costs values) c.others (omega (arith, parts))
        (again_so _ _ c.others
        (λ done rest j s r. (next_last p units costs values items c.firsts c.others c.joined c.each_once c.others done rest j s refl).1 r)
        [] c.others refl c.backwards)
        (λ x h t.
        let i = is_first x (omega (arith, occurs_both x, c.each_once x h, t.new)) in
        omega (arith, i.1, leb-false (at values x) (at costs x) (not-true _ t.mine)))

    pub chosen_both : both_ends p units costs values ≡ items
    unfolding both_ends
    chosen_both = rw (firsts_placed, others_placed, ← c.joined)

    pub chosen_is_choose : choose p units costs values ≡ some items
    unfolding choose
    chosen_is_choose = rw (chosen_both, eq-eqb _ _ chosen_all)

module _ (p : Sides) (units costs values : List ℕ) where
  -- there is one chosen order at most
  pub chosen_one : (l m : List ℕ) → IsChosen p units costs values l → IsChosen p units costs values m → l ≡ m
  chosen_one l m a b =
      let x = chosen_is_choose p units costs values l a in
      let y = chosen_is_choose p units costs values m b in
      cc

  -- where the choice gives none, there is none
  pub choose_none : choose p units costs values ≡ none → (items : List ℕ) → IsChosen p units costs values items → ⊥
  choose_none e items c =
      let q = chosen_is_choose p units costs values items c in
      let z : ◌≡◌ {A = ℕ} 0 1 = cc in
      omega arith

  -- there is one, or there is none
  pub chosen_or_none : ((items : List ℕ) × IsChosen p units costs values items) ⊎ ((items : List ℕ) → IsChosen p units costs values items → ⊥)
  chosen_or_none = go (choose p units costs values) refl
    where
      go : (o : Option (List ℕ)) → choose p units costs values ≡ o
          → ((items : List ℕ) × IsChosen p units costs values items) ⊎ ((items : List ℕ) → IsChosen p units costs values items → ⊥)
      go (some items) e = inl (items, choose_is_chosen p units costs values items e)
      go none e = inr (choose_none e)
