-- The search plans a deal wherever a plan exists, with fewest steps and by the earliest rows: for every deal that rises.
-- Assumes nothing.
use mathlib.Core.List.{List}
use Prim.Native.Nat.{ℕ, ◌+◌, ◌*◌, ◌≤◌, ◌<◌}
use native.Mathlib.Omega.{arith}
use Rattle.exchange.specs.Deal.{Deal, State, Safe, Plan, start}
use Rattle.exchange.specs.Work.{Rising, work_of}
use Rattle.exchange.specs.Fewest.{Fewest, Earliest}
use Rattle.exchange.specs.Search.{count, planned}
use Rattle.exchange.proofs.Bridge.{bridge, lawful}
use Rattle.exchange.proofs.TablePlan.Forward.{forwards_pay, forwards_earliest}
use Rattle.exchange.proofs.TablePlan.Short.{UnitsRise}
use Rattle.exchange.proofs.TablePlan.Count.{planned_length, count_plan, count_least, count_found}

module _ (d : Deal) (r : Rising d) (mark most : ℕ) where
  -- where a plan exists, the start is safe and there is a count
  pub plan_counted : (units : ℕ → ℕ) → UnitsRise (work_of d) units → 2 * units d.last + 1 ≤ most → (ys : List State) → Plan d ys
      → Safe d 0 0 × (count (work_of d) mark most ≤ most)
  plan_counted units rise b ys p =
      let q = (bridge d r ys).0 p in
      (q.0, count_found (work_of d) mark most (lawful d r) units rise b ys q.1)

  -- the list read forwards, where there is a count
  module _ (high : d.price < mark) (l : 0 < d.last) (h : Safe d 0 0) (c : count (work_of d) mark most ≤ most) where
    planned_fewest : Fewest d (planned (work_of d) mark most)
    planned_fewest =
        record {
          plan = (bridge d r _).1 (h, count_plan (work_of d) mark most (lawful d r) high c);
          least = λ ys p. rw planned_length (count_least (work_of d) mark most l ys ((bridge d r ys).0 p).1);
          pays_most = forwards_pay (work_of d) mark (count (work_of d) mark most) start;
        }

    pub planned_earliest : Earliest d (planned (work_of d) mark most)
    planned_earliest =
        record {
          fewest = planned_fewest;
          earliest = λ ys p e.
              let q = ((bridge d r ys).0 p).1 in
              rw (← planned_length (work_of d) mark most, ← e)
              (forwards_earliest (work_of d) mark start 0 ys (omega arith) q.steps q.arrives);
        }
