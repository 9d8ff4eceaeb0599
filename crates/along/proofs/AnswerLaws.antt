-- What was answered along an order, by its case. Assumes nothing.
use mathlib.Core.Path.{◌≡◌, refl, subst}
use mathlib.Core.Bool.{true, true≢false}
use mathlib.Core.List.{List}
use Prim.Native.Nat.{ℕ}
use Rattle.std.proofs.Common.{Result, Ok, Err, Option, Some, None}
use Rattle.exchange.specs.Deal.{Deal, State, Plan}
use Rattle.exchange.specs.declared.Objective.{Objective}
use Rattle.exchange.specs.declared.Unfit.{Unfit}
use Rattle.line.specs.Promise as line
use Rattle.planning.specs.Areas.{plan_areas}

module _ (aim : Objective) (d : Deal) (r : Result (Option ℕ) Unfit) (p s p' s' : List ℕ) (h : line.Answers aim d true r p s p' s') where
  pub line_steps : (n : ℕ) → r ≡ Ok (Some n) → line.Success aim d n p s p' s'
  line_steps n e = (subst (λ x. line.Answers aim d true x p s p' s') e h).1

  pub line_none : r ≡ Ok None → ((xs : List State) → Plan d xs → ⊥) × ((p' ≡ p) × (s' ≡ s))
  line_none e = (subst (λ x. line.Answers aim d true x p s p' s') e h).1

  pub line_fits : (u : Unfit) → r ≡ Err u → {X : Type 0} → X
  line_fits u e = absurd (true≢false (subst (λ x. line.Answers aim d true x p s p' s') e h).0)

-- the areas are as they were
pub none_written : (p s o p' s' : List ℕ) → p' ≡ p → s' ≡ s → plan_areas p' s' o ≡ plan_areas p s o
none_written p s o p' s' ep es = rw (ep, es) refl
