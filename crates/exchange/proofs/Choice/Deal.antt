-- The deals along the orders of the units: all have the same start, and one is possible if the start is safe and each unit fits the slack
-- where it is delivered. Assumes nothing.
use mathlib.Core.Path.{◌≡◌, ◌∙◌}
use mathlib.Core.Logic.Iff
use mathlib.Core.Logic.{◌↔◌}
use mathlib.Core.List.{List}
use Prim.Native.Nat.{ℕ, ◌≤◌}
use native.Mathlib.Omega.{arith}
use lib.Dec.{leb}
use lib.ListN.{length}
use Rattle.exchange.specs.Deal.{Safe, unclipped}
use Rattle.exchange.specs.Forms.{along, order_terms, in_order, Order}
use Rattle.exchange.specs.Possible.{Possible}
use Rattle.exchange.specs.Chosen.{at}
use Rattle.exchange.specs.Choice.{sum_over, all_items}
use Rattle.exchange.specs.declared.Sides.{Sides}
use Rattle.exchange.proofs.BoundLaws as bound
use Rattle.exchange.proofs.BoundLaws.{gap↔}
use Rattle.exchange.proofs.Bridge.{safe_start↔}
use Rattle.exchange.proofs.Clipped.{clipped_same, possible_same}
use Rattle.exchange.proofs.FormLaws.{order_rising}
use Rattle.exchange.proofs.Choice.Sums.{along_all, along_none, sum_order}
use Rattle.exchange.proofs.Choice.Room.{allowed_places, places_allowed}
use Rattle.exchange.proofs.Choice.Both.{Fitting}

-- the cost, or the value, of the last place is the same along every order
pub last_is : (units : List ℕ) (w : ℕ → ℕ) (σ : List ℕ) → Order units σ → along w σ (length σ) ≡ sum_over units w (all_items (length units))
last_is units w σ o = along_all w σ ∙ sum_order units w σ o

module _ (p : Sides) (units costs values : List ℕ) where
  -- whether the start is safe, without an order
  pub start↔ : (σ : List ℕ) → Order units σ
      → Safe (in_order p costs values σ) 0 0
      ↔ ((p.price ≤ sum_over units (at values) (all_items (length units))) × (sum_over units (at costs) (all_items (length units)) ≤ p.price))
  start↔ σ o =
      let v = last_is units (at values) σ o in
      let c = last_is units (at costs) σ o in
      let v0 = along_none (at values) σ in
      let c0 = along_none (at costs) σ in
      Iff.trans safe_start↔
      (Iff.trans (bound.start↔ (order_terms p costs values σ) leb) (
        λ s. (omega (arith, s.low), omega (arith, s.high)),
        λ s. record { low = omega (arith, s.0); high = omega (arith, s.1); within = omega arith },
      ))

  -- the start is as safe along one order as along another
  pub same_start : (σ τ : List ℕ) → Order units σ → Order units τ → Safe (in_order p costs values σ) 0 0
      → Safe (in_order p costs values τ) 0 0
  same_start σ τ o q s = (start↔ τ q).1 ((start↔ σ o).0 s)

  module _ (σ : List ℕ) (o : Order units σ) where
    same : Possible (in_order p costs values σ) ↔ Possible (unclipped (order_terms p costs values σ) leb)
    same = possible_same (order_terms p costs values σ) (order_rising p costs values σ)

    pub possible_fits : Possible (in_order p costs values σ) → Fitting p units costs values σ
    possible_fits h =
        places_allowed (at values) (at costs) σ _ _
        (λ i l. omega (arith, (gap↔ _ _ _ _ _ _ _).0 ((same.0 h).no_gap i l), last_is units (at values) σ o, last_is units (at costs) σ o))

    pub fits_possible : Safe (in_order p costs values σ) 0 0 → Fitting p units costs values σ → Possible (in_order p costs values σ)
    fits_possible s f =
        same.1
        (record {
          start_safe = ((clipped_same (order_terms p costs values σ) leb).safe 0 0).0 s;
          no_gap = λ i l.
              (gap↔ _ _ _ _ _ _ _).1
              (omega (arith, allowed_places (at values) (at costs) σ _ _ f i l, last_is units (at values) σ o, last_is units (at costs) σ o));
        })
