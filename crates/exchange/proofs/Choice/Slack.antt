-- What the choice tests is the papers' condition: a unit needs at most upper less lower of the place where the choice stands, along every
-- order that begins, or ends, with the units placed so far. Assumes nothing.
use mathlib.Core.Path.{◌≡◌, refl, sym, ap, ◌∙◌}
use mathlib.Core.Bool.{true}
use mathlib.Core.Logic.Iff
use mathlib.Core.Logic.{◌↔◌}
use mathlib.Core.List.{List, [], ◌∷◌, ◌++◌, reverse}
use Prim.Native.Nat.{ℕ, ◌+◌, ◌≤◌}
use native.Mathlib.Omega.{arith}
use lib.Dec.{leb}
use lib.IntN.{ℤ, pos, neg_ℤ, sub_ℕ, ◌+ℤ◌, ◌-ℤ◌, +ℤ_assoc, neg_ℤ-+ℤ, neg_ℤ-neg_ℤ}
use lib.ListN.{length}
use lib.Signed.{◌≤ℤ◌}
use borrow.Author.Tests.{leb-true, le-leb}
use Rattle.exchange.specs.Bounds.{Terms, unclipped_upper, unclipped_lower}
use Rattle.exchange.specs.Deal.{unclipped}
use Rattle.exchange.specs.Forms.{along, order_terms, Order}
use Rattle.exchange.specs.Chosen.{slack, at, together}
use Rattle.exchange.specs.Choice.{sum_over, has_room, front, back}
use Rattle.exchange.specs.declared.Sides.{Sides}
use Rattle.exchange.proofs.Int.{pos_is, pos_sub, sub_add, sub_sub, ≤-sub}
use Rattle.exchange.proofs.BoundLaws.{upper_is, lower_is}
use Rattle.exchange.proofs.Choice.Sums.{sum, sum_append, sum_reverse, sum_together, along_all}
use Rattle.exchange.proofs.Choice.Deal.{last_is}

sub_of : (a b c d : ℕ) → sub_ℕ a b -ℤ sub_ℕ c d ≡ sub_ℕ (a + d) (b + c)
sub_of a b c d =
    let minus : neg_ℤ (pos c -ℤ pos d) ≡ neg_ℤ (pos c) +ℤ pos d =
    neg_ℤ-+ℤ (pos c) (neg_ℤ (pos d)) ∙ ap (λ (z : ℤ). neg_ℤ (pos c) +ℤ z) (neg_ℤ-neg_ℤ (pos d)) in
    ap (λ (z : ℤ). sub_ℕ a b -ℤ z) (sym (pos_sub c d)) ∙ ap (λ (z : ℤ). sub_ℕ a b +ℤ z) minus
    ∙ sym (+ℤ_assoc (sub_ℕ a b) (neg_ℤ (pos c)) (pos d)) ∙ ap (λ (z : ℤ). z +ℤ pos d) (sub_sub a b c) ∙ sub_add a (b + c) d

-- at most the slack, with no subtraction
slack↔ : (t : Terms) (x m : ℕ)
    → (pos m ≤ℤ (unclipped_upper t x -ℤ unclipped_lower t x)) ↔ (m + t.cost t.last + t.value x ≤ t.cost x + t.supplier + (t.value t.last + t.buyer))
slack↔ t x m =
    let added = t.price + t.cost x + t.supplier in
    let taken = t.value t.last + t.buyer in
    rw (pos_is m, upper_is t.price (t.cost t.last), lower_is t.price (t.value t.last), sub_of added)
    (Iff.trans (≤-sub m 0 (added + taken) (t.cost t.last + (t.price + t.value x))) (omega arith))

along_part : (w : ℕ → ℕ) (l m : List ℕ) → along w (l ++ m) (length l) ≡ sum w l
unfolding along
along_part w [] [] = refl
along_part w [] (x ∷ m) = refl
along_part w (x ∷ l) m = omega (arith, along_part w l m)

module _ (units done rest : List ℕ) where
  -- an order that begins with the units of the items `done`
  abbrev begun : List ℕ
  begun = together units done ++ rest

  -- an order that ends with them, read backwards
  abbrev ended : List ℕ
  ended = rest ++ reverse (together units done)

  begun_part : (w : ℕ → ℕ) → along w begun (length (together units done)) ≡ sum_over units w done
  begun_part w = along_part w (together units done) rest ∙ sum_together units w done

  ended_part : (w : ℕ → ℕ) → along w ended (length ended) ≡ along w ended (length rest) + sum_over units w done
  ended_part w =
      let Us = together units done in
      omega (
        arith,
        along_all w ended,
        along_part w rest (reverse Us),
        sum_append w rest (reverse Us),
        sum_reverse w Us,
        sum_together units w done,
      )

  module _ (p : Sides) (costs values : List ℕ) (j : ℕ) where
    pub front_room : Order units begun
        → (has_room (front p units costs values) done j ≡ true)
        ↔ (pos (at values j) ≤ℤ slack (unclipped (order_terms p costs values begun) leb) (length (together units done)))
    front_room o =
        let v = last_is units (at values) begun o in
        let c = last_is units (at costs) begun o in
        let vs = begun_part (at values) in
        let cs = begun_part (at costs) in
        Iff.trans (omega (arith, leb-true, le-leb))
        (Iff.symm (slack↔ (order_terms p costs values begun) (length (together units done)) (at values j)))

    pub back_room : (has_room (back p units costs values) done j ≡ true)
        ↔ (pos (at costs j) ≤ℤ slack (unclipped (order_terms p costs values ended) leb) (length rest))
    back_room =
        let vs = ended_part (at values) in
        let cs = ended_part (at costs) in
        Iff.trans (omega (arith, leb-true, le-leb)) (Iff.symm (slack↔ (order_terms p costs values ended) (length rest) (at costs j)))
