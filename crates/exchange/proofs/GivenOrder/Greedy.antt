-- The rule for a given order, in the working form: its steps are steps, and no list of steps overtakes it. Assumes nothing.
use mathlib.Core.Path.{◌≡◌}
use Prim.Native.Nat.{ℕ, ◌≤◌}
use native.Mathlib.Nat.{le_refl, le_trans, le_antisymm}
use native.Mathlib.Omega.{arith}
use lib.Dec.{T, leb, le→leb}
use Rattle.exchange.specs.Deal.{State, Behind}
use Rattle.exchange.specs.Work.{Work, Lawful, WorkStep}
use Rattle.exchange.proofs.GivenOrder.Run.{state_eq}
use Rattle.exchange.proofs.GivenOrder.Lead.{Leads}
use Rattle.exchange.proofs.GivenOrder.Farthest.{farthest, farthest_is}

-- everything delivered, the price paid
abbrev pub goal : Work → State
goal w = record { place = w.last; paid = w.price }

-- deliver to the greatest place that is covered, pay the most that is afforded
abbrev pub greedy : Work → State → State
greedy w s = record { place = farthest w.floor s.paid w.last; paid = w.cap s.place }

-- a state of the deal in which both sides are safe
pub record Stands (w : Work) (s : State) : Type 0 where
  pub in_deal : s.place ≤ w.last
  pub covered : w.floor s.place ≤ s.paid
  pub afforded : s.paid ≤ w.cap s.place

-- along one order: a later place holds the units of every earlier one
pub record OnLine (w : Work) : Type 0 where
  pub lawful : Lawful w
  pub counts : (a b : ℕ) → w.holds a b ≡ leb a b

module _ {w : Work} (o : OnLine w) where
  holds : (a b : ℕ) → a ≤ b → T (w.holds a b)
  holds a b h = rw (o.counts a b) (le→leb a b h)

  pub cap_up : (a b : ℕ) → a ≤ b → b ≤ w.last → w.cap a ≤ w.cap b
  cap_up a b h k = o.lawful.cap_rises a b (omega arith) k (holds a b h)

  pub floor_up : (a b : ℕ) → a ≤ b → b ≤ w.last → w.floor a ≤ w.floor b
  floor_up a b h k = o.lawful.floor_rises a b (omega arith) k (holds a b h)

  module _ (s : State) (g : Stands w s) where
    greedy_onward : Behind s (greedy w s)
    greedy_onward =
        record {
          place = (farthest_is w.floor s.paid w.last).greatest s.place g.in_deal g.covered;
          paid = g.afforded;
        }

    greedy_step : WorkStep w s (greedy w s)
    greedy_step =
        let r = farthest_is w.floor s.paid w.last in
        let f = floor_up 0 s.place (omega arith) g.in_deal in
        record {
          in_deal = r.within;
          delivers = holds _ _ greedy_onward.place;
          pays = g.afforded;
          covered = r.covered (omega arith);
          afforded = le_refl _;
        }

    greedy_stands : Stands w (greedy w s)
    greedy_stands =
        let t = greedy_step in
        record {
          in_deal = t.in_deal;
          covered = le_trans t.covered g.afforded;
          afforded = cap_up _ _ greedy_onward.place t.in_deal;
        }

  greedy_ahead : (s t u : State) → Stands w u → Behind s u → WorkStep w s t → Behind t (greedy w u)
  greedy_ahead s t u g b st =
      record {
        place = (farthest_is w.floor u.paid w.last).greatest t.place st.in_deal (omega arith);
        paid = le_trans st.afforded (cap_up _ _ b.place g.in_deal);
      }

  greedy_rests : greedy w (goal w) ≡ goal w
  greedy_rests =
      let r = farthest_is w.floor w.price w.last in
      state_eq
      (le_antisymm r.within (r.greatest w.last (le_refl _) o.lawful.floor_last))
      o.lawful.cap_last

  pub greedy_leads : Leads (WorkStep w) (Stands w) (greedy w) (goal w)
  greedy_leads =
      record {
        steps = greedy_step;
        keeps = greedy_stands;
        onward = greedy_onward;
        ahead = greedy_ahead;
        bounded = λ s g. record { place = g.in_deal; paid = le_trans g.afforded (o.lawful.cap_price _) };
        rests = greedy_rests;
      }
