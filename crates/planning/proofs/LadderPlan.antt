-- A ladder's plan. Assumes nothing.
use mathlib.Core.Path.{◌≡◌, refl}
use mathlib.Core.Bool.{true}
use mathlib.Core.List.{List, [], ◌++◌}
use Prim.Native.Nat.{ℕ}
use lib.ListN.{length, drop, replicate}
use Rattle.contract.specs.declared.Form.TheVariants.{Ladder}
use Rattle.exchange.specs.Deal.{State, Plan}
use Rattle.exchange.specs.Forms.{ladder}
use Rattle.exchange.specs.declared.Objective.{Objective}
use Rattle.exchange.specs.declared.Sides.{Sides}
use Rattle.exchange.proofs.FormLaws.{ladder_rising}
use Rattle.exchange.specs.Named.{each_once}
use Rattle.order.specs.Bytes.{all_zero, names_each}
use Rattle.line.specs.Promise as line
use Rattle.planning.specs.Deals.{contract_with, NoPlan}
use Rattle.planning.specs.Areas.{Areas, room_for}
use Rattle.planning.specs.Promise.{SuccessFor}
use Rattle.planning.proofs.LinePlan.{line_laid}
use Rattle.planning.proofs.Outcome.{room, success}

module _ (s : Sides) (cs vs : List ℕ) where
  -- no plan along its own order, no plan
  pub ladder_none : ((xs : List State) → Plan (ladder s cs vs) xs → ⊥) → NoPlan (contract_with Ladder s [] cs vs)
  ladder_none none σ o xs p = none xs p

  -- the steps are laid out along its own order
  pub ladder_success : (aim : Objective) (n : ℕ) (a a' : Areas) → room_for (contract_with Ladder s [] cs vs) a ≡ true
      → line.Success aim (ladder s cs vs) n a.places a.sums a'.places a'.sums
      → a'.order ≡ replicate 8 0 ++ drop 8 a.order → a'.work ≡ replicate (length a.work) 0
      → SuccessFor aim (contract_with Ladder s [] cs vs) n a a'
  unfolding names_each all_zero each_once
  ladder_success aim n a a' e h o w =
      success aim (contract_with Ladder s [] cs vs) n (replicate 8 0) a a'
      (record {
        eight = refl;
        long = (room _ _ a e).order;
        order_is = o;
        names = refl;
        goes = tt;
        laid = line_laid Ladder (ladder s cs vs) (ladder_rising s cs vs) (λ x y. refl) (λ xs b. b) aim n _ _ _ _ h;
        work_is = w;
      })
