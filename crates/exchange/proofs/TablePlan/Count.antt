-- The step count: a plan of that many steps is read off, no plan has fewer, and without a count there is none. Assumes nothing.
use mathlib.Core.Path.{◌≡◌, ap}
use mathlib.Core.List.{List, [], ◌∷◌}
use Prim.Native.Nat.{ℕ, suc, ◌+◌, ◌*◌, ◌≤◌, ◌<◌}
use native.Mathlib.Decide.{dec_le}
use native.Mathlib.Omega.{arith}
use lib.Dec.{leb, leb→le, le→leb}
use lib.ListN.{length}
use Rattle.exchange.specs.Deal.{State, start}
use Rattle.exchange.specs.Work.{Work, Lawful, WorkPlan}
use Rattle.exchange.specs.Search.{need, count, planned}
use Rattle.exchange.proofs.TablePlan.First.{IsFirst, first_is}
use Rattle.exchange.proofs.TablePlan.Need.{steps_need, need_never_rises, need_settled}
use Rattle.exchange.proofs.TablePlan.Forward.{Ready, forwards_steps, forwards_arrive, forwards_length}
use Rattle.exchange.proofs.TablePlan.Short.{UnitsRise, short}

module _ (w : Work) (mark most : ℕ) where
  -- the first number of steps, from 1 to most, after which the start needs no payment
  pub count_is : IsFirst (λ j. leb (need w mark j 0) 0) 1 most (count w mark most)
  unfolding count
  count_is = first_is (λ j. leb (need w mark j 0) 0) 1 most

  count_enough : count w mark most ≤ most → need w mark (count w mark most) 0 ≤ 0
  count_enough h = leb→le _ _ (count_is.passes (omega arith))

  pub planned_length : length (planned w mark most) ≡ count w mark most
  planned_length = forwards_length w mark (count w mark most) start

  -- no plan has fewer steps
  pub count_least : 0 < w.last → (xs : List State) → WorkPlan w xs → count w mark most ≤ length xs
  count_least l [] h = absurd (omega (arith, ap (λ (s : State). s.place) h.arrives))
  count_least l (x ∷ xs) h =
      count_is.least (length (x ∷ xs)) (omega arith) (le→leb _ _ (steps_need w mark start (x ∷ xs) h.steps h.arrives))

  module _ (law : Lawful w) where
    -- a plan of that many steps
    pub count_plan : w.price < mark → count w mark most ≤ most → WorkPlan w (planned w mark most)
    count_plan high h =
        let r : Ready w mark (count w mark most) start = record { in_deal = omega arith; afforded = omega arith; enough = count_enough h } in
        record { steps = forwards_steps w mark law high _ start r; arrives = forwards_arrive w mark law high _ start r }

    -- where a plan exists there is a count
    pub count_found : (units : ℕ → ℕ) → UnitsRise w units → 2 * units w.last + 1 ≤ most → (xs : List State) → WorkPlan w xs
        → count w mark most ≤ most
    count_found units rise b xs h =
        let x = short w mark law units rise xs h in
        let l = count_is.least x.steps x.some (le→leb _ _ x.enough) in
        omega (arith, x.few)

    -- where one step more changes no row's need and the start still needs a payment, there is no count: the search may stop
    pub settled_none : (j : ℕ) → ((a : ℕ) → a ≤ w.last → need w mark (suc j) a ≡ need w mark j a) → 0 < need w mark j 0
        → most < count w mark most
    settled_none j same p = go (dec_le (count w mark most) most)
      where
        unreached : (k : ℕ) → Dec (j ≤ k) → 0 < need w mark k 0
        unreached k (yes h) = omega (arith, need_settled w mark j same k h 0 (omega arith))
        unreached k (no h) = omega (arith, need_never_rises w mark law k j 0 (omega arith))

        go : Dec (count w mark most ≤ most) → most < count w mark most
        go (yes h) = absurd (omega (arith, count_enough h, unreached (count w mark most) (dec_le j (count w mark most))))
        go (no h) = omega arith
