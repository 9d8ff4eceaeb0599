-- Both ends joined, and what is answered. Assumes nothing.
use mathlib.Core.Path.{◌≡◌, refl}
use mathlib.Core.Bool.{true, false}
use mathlib.Core.List.{List, [], ◌∷◌, ◌++◌, reverse, reverse-cons, map, append-nil, append_assoc}
use mathlib.Core.Option.{none, some}
use Rattle.std.proofs.Common.{None, Some}
use Prim.Native.Nat.{ℕ, zero, suc, ◌+◌, ◌-◌, ◌≤◌, ◌<◌}
use native.Mathlib.Omega.{arith}
use lib.ListN.{length, get_or, set, drop, replicate, length-append, length-reverse, length-drop, drop_of_length-le}
use lib.Seq.{drop-cons}
use borrow.Author.Tests.{eq-eqb, ne_eqb}
use Rattle.exchange.specs.Chosen.{at}
use Rattle.exchange.specs.Choice.{sum_over, all_items, placed, front, back, both_ends, choose}
use Rattle.exchange.specs.declared.Sides.{Sides}
use Rattle.exchange.proofs.Choice.ChosenLaws.{choose_is_chosen, choose_none}
use Rattle.choice.specs.Promise.{numbered, Answers}
use Rattle.choice.specs.Ends.{end_of, Holds}
use Rattle.choice.proofs.PlaceLaws.{push}

-- the number of an item
number_at : (b rest : List ℕ) (n : ℕ) → n < length b → get_or (map suc b ++ rest) n 0 ≡ suc (get_or b n 0)
number_at [] rest n h = absurd (omega arith)
number_at (x ∷ b) rest zero h = refl
number_at (x ∷ b) rest (suc n) h = number_at b rest n (omega arith)

-- the front's items and the last k of the back's
module _ (f b items back : List ℕ) (count more : ℕ) (hf : Holds f items count) (hb : Holds b back more) where
  pub join_none : items ≡ numbered (f ++ reverse (drop (more - 0) b))
  join_none = rw (drop_of_length-le b {i = more - 0} (omega arith), append-nil) hf.holds

  pub join_next : (k : ℕ) (now : List ℕ) → count + more ≤ 8 → k < more → now ≡ numbered (f ++ reverse (drop (more - k) b))
      → set now (count + k) (get_or back (more - 1 - k) 0) ≡ numbered (f ++ reverse (drop (more - (k + 1)) b))
  join_next k now few h held =
      rw (x_is, held, d, q, ← l_length) (push l x (omega (arith, l_length)))
    where
      x : ℕ
      x = get_or b (more - 1 - k) 0

      l : List ℕ
      l = f ++ reverse (drop (suc (more - 1 - k)) b)

      d : more - k ≡ suc (more - 1 - k)
      d = omega arith

      m_below : more - 1 - k < length b
      m_below = omega arith

      x_is : get_or back (more - 1 - k) 0 ≡ suc x
      x_is = rw hb.holds (number_at b (replicate (8 - length b) 0) (more - 1 - k) m_below)

      l_length : length l ≡ count + k
      l_length =
          omega (
            arith,
            length-append f (reverse (drop (suc (more - 1 - k)) b)),
            length-reverse (drop (suc (more - 1 - k)) b),
            length-drop (suc (more - 1 - k)) b,
          )

      d' : more - (k + 1) ≡ more - 1 - k
      d' = omega arith

      q : f ++ reverse (drop (more - (k + 1)) b) ≡ l ++ (x ∷ [])
      q = rw (d', drop-cons b (more - 1 - k) 0 m_below, reverse-cons, append_assoc)

-- what is answered for both ends
module _ (p : Sides) (units costs values : List ℕ) where
  pub too_many : 8 < length units → Answers p units costs values None
  too_many h = λ few items c. absurd (omega arith)

  -- the items of each end
  abbrev fronts : List ℕ
  fronts = placed (front p units costs values) (length units)

  abbrev backs : List ℕ
  backs = placed (back p units costs values) (length units)

  module _ {fi bi : List ℕ} {count more worth spent : ℕ}
      (ew : worth ≡ sum_over units (at values) (all_items (length units)))
      (es : spent ≡ sum_over units (at costs) (all_items (length units)))
      (hf : Holds (placed (end_of true units values costs (worth + (p.supplier + p.buyer)) spent) (length units)) fi count)
      (hb : Holds (placed (end_of false units costs values (p.supplier + p.buyer) 0) (length units)) bi more)
    where
      holds_front : Holds fronts fi count
      holds_front = rw (← ew, ← es) hf

      length_both : length (both_ends p units costs values) ≡ count + more
      unfolding both_ends
      length_both = omega (arith, length-append fronts (reverse backs), length-reverse backs, holds_front.counts)

      pub not_all : (count + more ≡ length units → ⊥) → Answers p units costs values None
      unfolding choose
      not_all n =
          let none_given : choose p units costs values ≡ none =
          rw (ne_eqb (length (both_ends p units costs values)) (length units) (λ e. n (omega (arith, length_both)))) in
          λ few. choose_none p units costs values none_given

      pub all : {order : List ℕ} → count + more ≡ length units
          → ((f b : List ℕ) → Holds f fi count → Holds b bi more → order ≡ numbered (f ++ reverse b))
          → Answers p units costs values (Some order)
      unfolding choose both_ends
      all e joined =
          let given : choose p units costs values ≡ some (both_ends p units costs values) =
          rw (eq-eqb (length (both_ends p units costs values)) (length units) (omega (arith, length_both))) in
          record {
            items = both_ends p units costs values;
            chosen = choose_is_chosen p units costs values (both_ends p units costs values) given;
            order_is = joined fronts backs holds_front hb;
          }
