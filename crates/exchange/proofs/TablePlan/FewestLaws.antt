-- There is only one plan with fewest steps by the earliest rows. Assumes nothing.
use mathlib.Core.Path.{◌≡◌, refl, sym, ap, ◌∙◌}
use mathlib.Core.Logic.{inl, inr}
use mathlib.Core.List.{List, [], ◌∷◌}
use native.Mathlib.Nat.{le_antisymm}
use native.Mathlib.Omega.{arith}
use lib.ListN.{length}
use Rattle.exchange.specs.Deal.{Deal, State, Chain, start}
use Rattle.exchange.specs.Fewest.{PaysMost, Earlier, Earliest}
use Rattle.exchange.proofs.GivenOrder.Run.{state_eq}

module _ (d : Deal) where
  same_list : (s : State) (xs ys : List State) → Chain (PaysMost d) s xs → Chain (PaysMost d) s ys → Earlier xs ys → Earlier ys xs → xs ≡ ys
  same_list s [] [] p q f g = refl
  same_list s [] (y ∷ ys) p q f g = absurd g
  same_list s (x ∷ xs) [] p q f g = absurd f
  same_list s (x ∷ xs) (y ∷ ys) p q (inl f) (inl g) = absurd (omega arith)
  same_list s (x ∷ xs) (y ∷ ys) p q (inl f) (inr g) = absurd (omega (arith, g.0))
  same_list s (x ∷ xs) (y ∷ ys) p q (inr f) (inl g) = absurd (omega (arith, f.0))
  same_list s (x ∷ xs) (y ∷ ys) p q (inr f) (inr g) =
      let h : x ≡ y = state_eq f.0 (p.0 ∙ sym q.0) in
      rw h (ap (λ (zs : List State). y ∷ zs) (same_list y xs ys (rw h at p.1) q.1 f.1 g.1))

  pub earliest_unique : (xs ys : List State) → Earliest d xs → Earliest d ys → xs ≡ ys
  earliest_unique xs ys a b =
      let e : length xs ≡ length ys = le_antisymm (a.fewest.least ys b.fewest.plan) (b.fewest.least xs a.fewest.plan) in
      same_list start xs ys a.fewest.pays_most b.fewest.pays_most
      (a.earliest ys b.fewest.plan (sym e)) (b.earliest xs a.fewest.plan e)
