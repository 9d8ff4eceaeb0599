-- A test of a plan that computes. Assumes nothing.
use mathlib.Core.Path.{◌≡◌, refl}
use mathlib.Core.Logic.{◌↔◌}
use mathlib.Core.Bool.{Bool, true, ◌&&◌, and-eq-true_iff}
use mathlib.Core.List.{List, [], ◌∷◌}
use lib.Dec.{leb, eqb}
use borrow.Author.Tests.{leb-true, le-leb, eqb-true, eq-eqb}
use Rattle.exchange.specs.Deal.{Deal, State, Safe, Plan, Steps, start, end, ends}
use Rattle.exchange.specs.Test.{bounds_at, step_test}
use Rattle.exchange.specs.Work.{Rising}
use Rattle.exchange.proofs.Bridge.{plan_start}
use Rattle.exchange.proofs.GivenOrder.Run.{state_eq}
use Rattle.exchange.proofs.TestLaws.{start_safe, start_safe↔, step↔}

module _ (d : Deal) where
  -- whether a state is the end
  abbrev pub at_end : State → Bool
  at_end s = eqb s.place d.last && eqb s.paid d.price

  pub end↔ : (s : State) → (at_end s ≡ true) ↔ (s ≡ end d)
  end↔ s = (
    λ e. let f = (and-eq-true_iff _ _).0 e in state_eq (eqb-true _ _ f.0) (eqb-true _ _ f.1),
    λ e. rw (e, eq-eqb d.last _ refl, eq-eqb d.price _ refl),
  )

  -- whether a state is one step after another, where the start is safe
  abbrev pub is_step : State → State → Bool
  is_step s t =
      leb t.place d.last
      && step_test (d.holds s.place t.place) (bounds_at d s.place) (bounds_at d t.place) s.paid t.paid d.price

  -- whether each state is one step after the one before
  unfoldable pub are_steps : State → List State → Bool
  are_steps s [] = true
  are_steps s (t ∷ ts) = is_step s t && are_steps t ts

  -- whether states are a plan
  unfoldable pub is_plan : List State → Bool
  is_plan xs = start_safe d && are_steps start xs && at_end (ends start xs)

module _ (d : Deal) (r : Rising d) where
  steps↔ : Safe d 0 0 → (s : State) (xs : List State) → (are_steps d s xs ≡ true) ↔ Steps d s xs
  unfolding are_steps
  steps↔ safe s [] = (λ e. tt, λ h. refl)
  steps↔ safe s (t ∷ ts) = (
    λ e.
        let f = (and-eq-true_iff (is_step d s t) _).0 e in
        let g = (and-eq-true_iff (leb t.place d.last) _).0 f.0 in
        ((step↔ d r safe s t (leb-true _ _ g.0)).0 g.1, (steps↔ safe t ts).0 f.1),
    λ h. rw (le-leb _ _ h.0.in_deal, (step↔ d r safe s t h.0.in_deal).1 h.0) ((steps↔ safe t ts).1 h.1),
  )

  pub plan↔ : (xs : List State) → (is_plan d xs ≡ true) ↔ Plan d xs
  unfolding is_plan
  plan↔ xs = (
    λ e.
        let f = (and-eq-true_iff _ _).0 e in
        let g = (and-eq-true_iff (start_safe d) (are_steps d start xs)).0 f.0 in
        record { steps = (steps↔ ((start_safe↔ d).0 g.0) start xs).0 g.1; arrives = (end↔ d (ends start xs)).0 f.1 },
    λ p.
        let safe = plan_start d r xs p in
        rw ((start_safe↔ d).1 safe, (steps↔ safe start xs).1 p.steps) ((end↔ d (ends start xs)).1 p.arrives),
  )
