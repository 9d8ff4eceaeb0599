-- How planning can end, by what its record says. Assumes nothing.
use mathlib.Core.Path.{◌≡◌, refl, ap, ◌∙◌, subst}
use mathlib.Core.List.{List}
use Prim.Native.Nat.{ℕ, ◌*◌, ◌≤◌}
use native.Mathlib.Omega.{arith}
use lib.ListN.{length}
use lib.Seq.{take_all}
use Rattle.contract.specs.Res.{Res, refused, ok}
use Rattle.contract.specs.Contract.{Contract}
use Rattle.contract.specs.Parse.{parse}
use Rattle.contract.specs.Valid.{Valid}
use Rattle.contract.proofs.ParsedValid.{parsed_valid}
use Rattle.exchange.specs.Deal.{State}
use Rattle.exchange.specs.Chosen.{together}
use Rattle.exchange.specs.PlanIn.{plan_in}
use Rattle.exchange.specs.declared.Objective.{Objective}
use Rattle.planning.specs.Deals.{deal_of, NoPlan}
use Rattle.planning.specs.Areas.{Areas, Roomy}
use Rattle.planning.specs.Order.{order_in, deal_by}
use Rattle.planning.specs.Promise.{ahead, Ours, Plans, Success}
use Rattle.planning.proofs.SameOutcome.{claimed_same}
use Rattle.planning.proofs.OrderBytes.{order_of, order_same}
use Rattle.planning.proofs.Outcome.{room}
use Rattle.planning.proofs.Room.{roomy_ahead}
use Rattle.cases.specs.Case.{plan, no_plan, PlanningEnds, Gives, Claimed}
use Rattle.cases.proofs.AllFacts.{Right}

-- planning repeats the refusal of its record
pub record_refused : (bytes : List ℕ) (e : ℕ) → parse bytes ≡ refused e → Right bytes (refused e) (no_plan e)
unfolding ahead
record_refused bytes e read = record { claim = tt; only = λ before after answer r p. (rw read at p).0 }

module _ (bytes : List ℕ) (k : Contract) (read : parse bytes ≡ ok k) where
  -- planning of a contract finds that no plan exists, or plans
  module _ (Ends : Res ℕ → Areas → Type 0)
      (impossible : NoPlan k → (after : Areas) → Ends (refused 9) after)
      (planned : (n : ℕ) (before after : Areas) → 8 ≤ length after.order → Success k n before after → Ends (ok n) after) where
    by_answer : (answer : Res ℕ) (before after : Areas) → Roomy before → Plans (ok k) answer before after → Ends answer after
    by_answer (refused e) before after r p = rw p.0 (impossible p.1.0 after)
    by_answer (ok n) before after r s = planned n before after (omega (arith, (room 1000 (128 * 256) before r).order, s.order_length)) s

    pub planning_ends : PlanningEnds bytes Ends
    planning_ends before after answer r p = by_answer answer before after r (rw (roomy_ahead bytes before r, read) at p)

  -- where no plan exists, it finds that
  pub none_planned : NoPlan k → Right bytes (ok k) (no_plan 9)
  none_planned none =
      record {
        claim = none;
        only =
            planning_ends _ (λ no after. refl)
            (λ n before after long s.
            let order = order_of k (parsed_valid bytes k read) after.order long s.order in
            absurd (none (order_in k after.order) order _ s.ours.plan));
      }

  -- what it claims of an order and of the steps along it, it gives, and nothing else
  module _ (order : List ℕ) (eight : length order ≡ 8) (xs : List State) (c : Claimed k order xs) where
    valid : Valid k
    valid = parsed_valid bytes k read

    gives : (n : ℕ) (before after : Areas) → 8 ≤ length after.order → Success k n before after → Gives order xs (ok n) after
    unfolding order_in
    gives n before after long s =
        let (items, front) = order_same k valid after.order order long (omega arith) s.order c.named s.chosen c.chosen in
        let e : order_in k after.order ≡ order_in k order = ap (together k.units) items in
        let ours = subst (λ σ. Ours k.form (deal_of k σ) n (plan_in n after.places after.sums)) e s.ours in
        let (count, entries) = claimed_same (deal_by k order) n _ _ xs Objective.Steps k.form ours c.ours in
        record {
          count = ap ok count;
          plan = subst (λ m. plan_in m after.places after.sums ≡ xs) count entries;
          named = front ∙ take_all 8 order (omega arith);
        }

    pub claimed_given : Right bytes (ok k) (plan order xs)
    claimed_given =
        record {
          claim = c;
          only =
              planning_ends _
              (λ none after. absurd (none (order_in k order) (order_of k valid order (omega arith) c.named) xs c.ours.plan))
              gives;
        }
