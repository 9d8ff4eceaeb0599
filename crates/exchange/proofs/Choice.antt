-- The chosen order is an order of the units, and a plan exists along it; where there is none, or the start is not safe, no plan exists in any
-- order, interleaved ones included. Assumes nothing.
pub mod Sums
pub mod Room
pub mod Best
pub mod End
pub mod OneByOne
pub mod Both
pub mod Deal
pub mod Slack
pub mod ChosenLaws
pub mod Examples
pub mod Named
use mathlib.Core.Path.{◌≡◌, refl, subst}
use mathlib.Core.List.{List}
use Prim.Native.Nat.{ℕ, ◌<◌}
use lib.ListN.{length}
use borrow.Author.Tests.{eq-eqb}
use Rattle.exchange.specs.Deal.{State, Safe, Plan}
use Rattle.exchange.specs.Forms.{occurs, in_order, Order}
use Rattle.exchange.specs.Possible.{Possible}
use Rattle.exchange.specs.Chosen.{at, together, IsChosen}
use Rattle.exchange.specs.Choice.{both_ends, choose}
use Rattle.exchange.specs.declared.Sides.{Sides}
use Rattle.exchange.proofs.FormLaws.{order_rising}
use Rattle.exchange.proofs.GivenOrder.{plan_exists}
use Rattle.exchange.proofs.Choice.Both.{items_once, items_order, items_fit, every_placed}
use Rattle.exchange.proofs.Choice.ChosenLaws.{choose_is_chosen, chosen_all, chosen_both}
use Rattle.exchange.proofs.Choice.Deal.{same_start, possible_fits, fits_possible}

module _ (p : Sides) (units costs values : List ℕ) where
  abbrev both : List ℕ
  both = both_ends p units costs values

  plan_possible : (σ : List ℕ) (xs : List State) → Plan (in_order p costs values σ) xs → Possible (in_order p costs values σ)
  plan_possible σ xs h = (plan_exists (in_order p costs values σ) (order_rising p costs values σ) (λ a b. refl)).0 (xs, h)

  -- ---- the chosen order

  -- what its items have: each stands once, and where the start is safe a plan exists along their units
  pub record Chosen (items : List ℕ) : Type 0 where
    pub all : length items ≡ length units
    pub once : (j : ℕ) → j < length units → occurs j items ≡ 1
    pub order : Order units (together units items)
    pub possible : Safe (in_order p costs values (together units items)) 0 0 → Possible (in_order p costs values (together units items))

  pub chosen : (items : List ℕ) → IsChosen p units costs values items → Chosen items
  chosen items c =
      let l : length both ≡ length units = rw (chosen_both p units costs values items c) (chosen_all p units costs values items c) in
      subst Chosen (chosen_both p units costs values items c)
      (record {
        all = l;
        once = items_once p units costs values l;
        order = items_order p units costs values l;
        possible = λ s. fits_possible p units costs values _ (items_order p units costs values l) s (items_fit p units costs values l);
      })

  -- ---- there is no chosen order, or the start is not safe

  -- of items that have units
  module _ (units_some : (j : ℕ) → j < length units → 0 < at units j) where
    pub none_plans : ((items : List ℕ) → IsChosen p units costs values items → ⊥) → (σ : List ℕ) → Order units σ → (xs : List State)
        → Plan (in_order p costs values σ) xs → ⊥
    unfolding choose
    none_plans none_chosen σ o xs h =
        let l = every_placed p units costs values units_some σ o (possible_fits p units costs values σ o (plan_possible σ xs h)) in
        none_chosen both (choose_is_chosen p units costs values both (rw (eq-eqb _ _ l)))

  pub unsafe_plans : (τ : List ℕ) → Order units τ → (Safe (in_order p costs values τ) 0 0 → ⊥)
      → (σ : List ℕ) → Order units σ → (xs : List State) → Plan (in_order p costs values σ) xs → ⊥
  unsafe_plans τ q n σ o xs h = n (same_start p units costs values σ τ o q (plan_possible σ xs h).start_safe)
