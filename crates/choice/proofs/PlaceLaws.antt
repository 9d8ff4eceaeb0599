-- Placing items from one end. Assumes nothing.
use mathlib.Core.Path.{◌≡◌, refl, sym, ◌∙◌, subst}
use mathlib.Core.Bool.{Bool, true, false}
use mathlib.Core.Logic.{dite}
use mathlib.Core.List.{List, [], ◌∷◌, ◌++◌, map, map-append, append_assoc}
use Prim.Native.Nat.{ℕ, zero, suc, ◌+◌, ◌-◌, ◌*◌, ◌^◌, ◌≤◌, ◌<◌}
use native.Mathlib.Nat.{add-zero, zero-add}
use native.Mathlib.Decide.{ℕ_discrete}
use native.Mathlib.Numerals.{add-one}
use native.Mathlib.Omega.{arith}
use lib.Dec.{eqb}
use lib.ListN.{length, get_or, set, replicate, length-set, length-append, length-map, get_or-replicate}
use lib.Seq.{get_or-set_same, get_or-set_other, set_at}
use borrow.Author.Tests.{eq-eqb, ne_eqb, lt-ltb, le-ltb}
use Rattle.exchange.specs.Forms.{occurs}
use Rattle.exchange.specs.Chosen.{at}
use Rattle.exchange.specs.Choice.{End, sum_over, best, placed}
use Rattle.exchange.proofs.Choice.Sums.{occurs_append}
use Rattle.choice.specs.Promise.{numbered}
use Rattle.choice.specs.Ends.{left_of, with_slack, Holds}
use Rattle.choice.proofs.ItemLaws.{sum_one, best_left}

-- one more item
pub push : (l : List ℕ) (x : ℕ) → length l < 8 → set (numbered l) (length l) (suc x) ≡ numbered (l ++ (x ∷ []))
push l x h =
    let e : 8 - length l ≡ suc (8 - length (l ++ (x ∷ []))) = omega (arith, length-append l (x ∷ [])) in
    rw (e, set_at (map suc l) 0 (replicate (8 - length (l ++ (x ∷ []))) 0) (suc x) (length l) (length-map l suc), map-append suc l (x ∷ []), append_assoc)

-- where no item may be next, no later choice places one
rest : (e : End) (k m : ℕ) → length e.units ≤ best e (placed e k) (length e.units) → placed e (m + k) ≡ placed e k
unfolding placed
rest e k zero l = rw zero-add refl
rest e k (suc m) l = let q : suc m + k ≡ suc (m + k) = omega arith in rw (q, rest e k m l, le-ltb _ _ l) refl

-- what the code holds after k choices, each of which placed an item
pub record Going (e : End) (k : ℕ) (todo : List Bool) (items : List ℕ) (added taken : ℕ) : Type 0 where
  pub turn : k ≤ length e.units
  pub size : length todo ≡ 8
  pub left : (j : ℕ) → j < 8 → get_or todo j false ≡ eqb (occurs j (placed e k)) 0
  pub holds : Holds (placed e k) items k
  pub added_is : added ≡ e.added + sum_over e.units e.gives (placed e k)
  pub taken_is : taken ≡ e.taken + sum_over e.units e.needs (placed e k)
  pub added_below : added < 2 ^ 52 + k * 2 ^ 48
  pub taken_below : taken < 2 ^ 52 + k * 2 ^ 48

module _ {e : End} where
  pub going_begin : e.added < 2 ^ 52 → e.taken < 2 ^ 52 → Going e 0 (replicate 8 true) (replicate 8 0) e.added e.taken
  unfolding placed sum_over occurs
  going_begin a t =
      record {
        turn = omega arith;
        size = refl;
        left = λ j h. get_or-replicate 8 j true false h;
        holds = record { few = omega arith; counts = refl; holds = refl };
        added_is = omega arith;
        taken_is = omega arith;
        added_below = omega arith;
        taken_below = omega arith;
      }

  -- as many choices as items
  pub all_turns : {k : ℕ} {todo : List Bool} {items : List ℕ} {added taken : ℕ} → Going e k todo items added taken → length e.units ≤ k
      → Holds (placed e (length e.units)) items k
  all_turns {k} {todo} {items} g h =
      let q : k ≡ length e.units = omega (arith, g.turn) in
      subst (λ (n : ℕ). Holds (placed e n) items k) q g.holds

  module _ {k : ℕ} {todo : List Bool} {items : List ℕ} {added taken j : ℕ} (small : length e.units ≤ 8) (h : k < length e.units)
      (g : Going e k todo items added taken)
      (b : j ≡ best (left_of (with_slack e added taken) todo) [] (length e.units))
    where
      is_best : j ≡ best e (placed e k) (length e.units)
      is_best = b ∙ best_left e (placed e k) todo added taken g.added_is g.taken_is (length e.units) (λ i l. g.left i (omega arith))

      -- no item may be next
      pub all_placed : length e.units ≤ j → Holds (placed e (length e.units)) items k
      all_placed l =
          let m : length e.units - k + k ≡ length e.units = omega (arith, g.turn) in
          let none : length e.units ≤ best e (placed e k) (length e.units) = omega (arith, is_best) in
          rw (← m, rest e k (length e.units - k) none) g.holds

      longer : j < length e.units → placed e (k + 1) ≡ placed e k ++ (j ∷ [])
      unfolding placed
      longer l = rw (add-one k, ← is_best, lt-ltb j (length e.units) l)

      -- item j is placed
      module _ {x y : ℕ} (l : j < length e.units)
          (ex : (x ≡ at e.units j * e.gives j) × (x < 2 ^ 48))
          (ey : (y ≡ at e.units j * e.needs j) × (y < 2 ^ 48))
        where
          left_one : (i : ℕ) → i < 8 → get_or (set todo j false) i false ≡ eqb (occurs i (placed e k ++ (j ∷ []))) 0
          unfolding occurs
          left_one i p =
              dite
              (ℕ_discrete i j)
              (λ q.
              rw q
              (get_or-set_same todo j false false (omega arith)
              ∙ sym
              (ne_eqb (occurs j (placed e k ++ (j ∷ []))) 0
              (λ z. omega (arith, z, rw (eq-eqb j j refl) at (occurs_append j (placed e k) (j ∷ [])))))))
              (λ (q : i ≡ j → ⊥).
              get_or-set_other todo j i false false q
              ∙ g.left i p
              ∙ rw (occurs_append i (placed e k) (j ∷ []), ne_eqb j i (λ z. q (sym z))) (simp add-zero))

          pub going_some : {todo' : List Bool} {items' : List ℕ} {added' taken' : ℕ}
              → added' ≡ added + x → taken' ≡ taken + y → todo' ≡ set todo j false → items' ≡ set items k (j + 1)
              → Going e (k + 1) todo' items' added' taken'
          going_some ea en et ei =
              rw (et, ei, ea, en)
              (record {
                turn = omega arith;
                size = length-set todo j false ∙ g.size;
                left = rw (longer l) left_one;
                holds =
                    rw (longer l)
                    (record {
                      few = omega (arith, length-append (placed e k) (j ∷ []));
                      counts = omega (arith, length-append (placed e k) (j ∷ []));
                      holds =
                          rw (add-one j, g.holds.holds)
                          (subst (λ (n : ℕ). set (numbered (placed e k)) n (suc j) ≡ numbered (placed e k ++ (j ∷ []))) (sym g.holds.counts)
                          (push (placed e k) j (omega (arith, g.holds.counts))));
                    });
                added_is = rw (longer l) (omega (arith, sum_one e.units e.gives (placed e k) j));
                taken_is = rw (longer l) (omega (arith, sum_one e.units e.needs (placed e k) j));
                added_below = omega arith;
                taken_below = omega arith;
              })

-- the end as the code holds it, x, is e with the slack there
module _ {e x : End} {k : ℕ} {todo : List Bool} {items : List ℕ} {added taken : ℕ} (q : x ≡ with_slack e added taken) (small : length e.units ≤ 8)
    (h : k < length e.units) (g : Going e k todo items added taken) where
  pub going_done : length x.units ≡ best (left_of x todo) [] (length x.units) → Holds (placed e (length e.units)) items k
  going_done b = all_placed small h g (rw q at b) (omega arith)

  pub going_next : {j added' taken' : ℕ} → j < length x.units → j ≡ best (left_of x todo) [] (length x.units)
      → (added' ≡ added + at x.units j * x.gives j) × (added' < added + 2 ^ 48)
      → (taken' ≡ taken + at x.units j * x.needs j) × (taken' < taken + 2 ^ 48)
      → Going e (k + 1) (set todo j false) (set items k (j + 1)) added' taken'
  going_next l b ea et =
      let a = rw q at ea in
      let t = rw q at et in
      going_some small h g (rw q at b) (rw q at l) (refl, omega (arith, a)) (refl, omega (arith, t)) a.0 t.0 refl refl

  pub slack_next : {y : End} {added' taken' : ℕ} → y ≡ with_slack x added' taken' → y ≡ with_slack e added' taken'
  slack_next r = rw q at r
