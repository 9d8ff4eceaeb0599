-- The items from both ends: if each is placed, their units are an order that the slack allows; if any order is allowed, each is placed.
-- Assumes nothing.
use mathlib.Core.Path.{◌≡◌, refl, sym, ap, ◌∙◌}
use mathlib.Core.Bool.{Bool, true, false, not}
use mathlib.Core.Logic.{⊎_elim, dite}
use mathlib.Core.List.{List, [], ◌∷◌, ◌++◌, reverse, reverse-cons, reverse-append, append-nil}
use Prim.Native.Nat.{ℕ, zero, suc, ◌+◌, ◌≤◌, ◌<◌}
use native.Mathlib.Nat.{le_of_lt}
use native.Mathlib.Numerals.{add-one}
use native.Mathlib.Decide.{ℕ_discrete}
use native.Mathlib.Omega.{arith}
use lib.ListN.{length, replicate, replicate-append-replicate}
use borrow.Author.Tests.{leb-true, leb-false, not-true, not-false}
use Rattle.exchange.specs.Forms.{occurs, Order}
use Rattle.exchange.specs.Chosen.{at, together}
use Rattle.exchange.specs.Choice.{sum_over, all_items, comes_first, placed, front, back, both_ends}
use Rattle.exchange.specs.declared.Sides.{Sides}
use Rattle.exchange.proofs.Choice.Sums.{num, sum, bool_cases, occurs_append, occurs_reverse, once_order, sum_append, sum_reverse, sum_order}
use Rattle.exchange.proofs.Choice.Sums.{tally, tally_length, tally_once, tally_full}
use Rattle.exchange.proofs.Choice.Room.{Allowed, allowed_append, allowed_mirror}
use Rattle.exchange.proofs.Choice.End.{together_append, Parts, Kept, kept, all_placed}

reverse_replicate : (k i : ℕ) → reverse (replicate k i) ≡ replicate k i
reverse_replicate zero i = refl
reverse_replicate (suc k) i =
    reverse-cons i (replicate k i) ∙ ap (λ (l : List ℕ). l ++ (i ∷ [])) (reverse_replicate k i) ∙ replicate-append-replicate k 1 i
    ∙ ap (λ (m : ℕ). replicate m i) (add-one k)

pub together_reverse : (units l : List ℕ) → together units (reverse l) ≡ reverse (together units l)
unfolding together
together_reverse units [] = refl
together_reverse units (i ∷ l) =
    rw (reverse-cons, together_append units (reverse l) (i ∷ []), together_reverse units l, append-nil, reverse-append, reverse_replicate)

-- what is not placed from one end is placed from the other
one_end : (b : Bool) → num b + num (not b) ≡ 1
one_end true = refl
one_end false = refl

module _ (p : Sides) (units costs values : List ℕ) where
  -- the items from both ends, from the first place on, and from the last backwards
  abbrev items : List ℕ
  items = both_ends p units costs values

  abbrev front_items : List ℕ
  front_items = placed (front p units costs values) (length units)

  abbrev back_items : List ℕ
  back_items = placed (back p units costs values) (length units)

  pub front_parts : Parts (front p units costs values)
  front_parts = record { gains = λ x h. leb-true _ _ h; rest = λ x h. le_of_lt (leb-false _ _ h) }

  pub back_parts : Parts (back p units costs values)
  back_parts = record { gains = λ x h. le_of_lt (leb-false _ _ (not-true _ h)); rest = λ x h. leb-true _ _ (not-false _ h) }

  keeps_front : Kept (front p units costs values) front_items
  keeps_front = kept _ front_parts (length units)

  keeps_back : Kept (back p units costs values) back_items
  keeps_back = kept _ back_parts (length units)

  occurs_both : (x : ℕ) → occurs x items ≡ occurs x front_items + occurs x back_items
  unfolding both_ends
  occurs_both x = omega (arith, occurs_append x front_items (reverse back_items), occurs_reverse x back_items)

  both_once : (x : ℕ) → occurs x items ≤ 1
  both_once x = omega (arith, occurs_both x, keeps_front.once x, keeps_back.once x, one_end (comes_first costs values x))

  both_length : length items ≡ tally (length units) items
  both_length = sym (tally_length (length units) items below)
    where
      below : (x : ℕ) → 0 < occurs x items → x < length units
      below x h =
          dite
          (ℕ_discrete (occurs x front_items) 0)
          (λ z. keeps_back.below x (omega (arith, occurs_both x, z)))
          (λ (z : occurs x front_items ≡ 0 → ⊥). keeps_front.below x (omega arith))

  -- the slack of the first place allows the units of the list, in turn
  abbrev pub Fitting : List ℕ → Type 0
  Fitting = Allowed (at values) (at costs) (front p units costs values).added (front p units costs values).taken

  -- ---- if each item is placed

  module _ (e : length items ≡ length units) where
    pub items_once : (x : ℕ) → x < length units → occurs x items ≡ 1
    items_once = tally_full items both_once (length units) (sym both_length ∙ e)

    pub items_order : Order units (together units items)
    items_order = once_order units items items_once

    pub items_fit : Fitting (together units items)
    items_fit =
        rw apart
        (allowed_append (at values) (at costs) Fs (reverse Bs) _ _ keeps_front.allowed
        (allowed_mirror (at costs) (at values) Bs _ 0 _ _ (omega (arith, whole (at costs), whole (at values))) keeps_back.allowed))
      where
        Fs : List ℕ
        Fs = together units front_items

        Bs : List ℕ
        Bs = together units back_items

        apart : together units items ≡ Fs ++ reverse Bs
        apart = unfold both_ends in together_append units front_items (reverse back_items) ∙ ap (λ (l : List ℕ). Fs ++ l) (together_reverse units back_items)

        whole : (w : ℕ → ℕ) → sum w Fs + sum w Bs ≡ sum_over units w (all_items (length units))
        whole w = omega (arith, sum_order units w _ items_order, ap (sum w) apart, sum_append w Fs (reverse Bs), sum_reverse w Bs)

  -- ---- if any order is allowed

  pub every_placed : ((x : ℕ) → x < length units → 0 < at units x) → (σ : List ℕ) → Order units σ → Fitting σ
      → length items ≡ length units
  every_placed some σ o f = both_length ∙ tally_once items (length units) one
    where
      mirrored : Allowed (at costs) (at values) (p.supplier + p.buyer) 0 (reverse σ)
      mirrored = allowed_mirror (at values) (at costs) σ _ _ _ _ (omega (arith, sum_order units (at costs) σ o, sum_order units (at values) σ o)) f

      one : (x : ℕ) → x < length units → occurs x items ≡ 1
      one x h =
          dite (ℕ_discrete (occurs x items) 0) (λ z. absurd (missing z)) (λ (z : occurs x items ≡ 0 → ⊥). omega (arith, both_once x))
        where
          missing : occurs x items ≡ 0 → ⊥
          missing z =
              ⊎_elim
              (λ m. all_placed _ front_parts some σ o f x (record { mine = m; below = h; new = omega (arith, occurs_both x) }))
              (λ m.
              all_placed _ back_parts some (reverse σ) (λ i. occurs_reverse i σ ∙ o i) mirrored x
              (record { mine = ap not m; below = h; new = omega (arith, occurs_both x) }))
              (bool_cases (comes_first costs values x))
