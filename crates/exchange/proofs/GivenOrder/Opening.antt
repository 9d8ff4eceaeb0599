-- A first step that is dropped where it is empty. Assumes nothing.
use mathlib.Core.Path.{◌≡◌, refl, ap}
use mathlib.Core.Bool.{Bool, true, false, cond}
use mathlib.Core.List.{List, ◌∷◌, ◌++◌}
use Prim.Native.Nat.{ℕ, zero, suc, ◌+◌, ◌≤◌}
use native.Mathlib.Omega.{arith}
use lib.Dec.{eqb}
use lib.ListN.{length}
use borrow.Author.Tests.{eq-eqb, ne_eqb}
use Rattle.exchange.specs.Deal.{State, Chain, start, ends}
use Rattle.exchange.specs.Objectives.{count, moves, opening}
use Rattle.exchange.proofs.GivenOrder.Run.{state_eq}
use Rattle.exchange.proofs.GivenOrder.Count.{rises_none, rises_not}

-- a step without a move from the start leads to the start
pub still_start : (f : State) → moves start f ≡ 0 → f ≡ start
still_start f e =
    let place = rises_none 0 f.place (omega arith) in
    let paid = rises_none 0 f.paid (omega arith) in
    state_eq (omega arith) (omega arith)

-- what holds of the steps after the start, and of a first step and the steps after it, holds of an opening
pub opening_by : (P : List State → Type 0) (f : State) (xs : List State) → (moves start f ≡ 0 → P xs) → (1 ≤ moves start f → P (f ∷ xs)) → P (opening f xs)
unfolding opening
opening_by P f xs dropped kept = go (moves start f) refl
  where
    go : (m : ℕ) → moves start f ≡ m → P (opening f xs)
    go zero e = rw (eq-eqb (moves start f) 0 e) (dropped e)
    go (suc m) e = rw (ne_eqb (moves start f) 0 (λ q. omega arith)) (kept (omega arith))

module _ (f : State) (xs : List State) where
  pub opening_chain : (R : State → State → Type 0) → R start f → Chain R f xs → Chain R start (opening f xs)
  opening_chain R r c = opening_by (Chain R start) f xs (λ e. rw (← still_start f e) c) (λ m. (r, c))

  pub opening_ends : ends start (opening f xs) ≡ ends f xs
  opening_ends = opening_by (λ ys. ends start ys ≡ ends f xs) f xs (λ e. rw (still_start f e)) (λ m. refl)

  pub opening_count : (measure : State → State → ℕ) → measure start start ≡ 0
      → count measure start (opening f xs) ≡ measure start f + count measure f xs
  opening_count measure z =
      opening_by (λ ys. count measure start ys ≡ measure start f + count measure f xs) f xs
      (λ e. rw (still_start f e, z) (omega arith))
      (λ m. refl)

  pub opening_length : moves start f ≤ 1 → length (opening f xs) ≡ moves start f + length xs
  opening_length h = opening_by (λ ys. length ys ≡ moves start f + length xs) f xs (λ e. omega arith) (λ m. omega arith)

-- one more step at the end
pub opening_more : (f : State) (xs ys : List State) → opening f (xs ++ ys) ≡ opening f xs ++ ys
unfolding opening
opening_more f xs ys = go (eqb (moves start f) 0)
  where
    go : (b : Bool) → cond b (xs ++ ys) (f ∷ xs ++ ys) ≡ cond b xs (f ∷ xs) ++ ys
    go true = refl
    go false = refl

-- no first step at all
pub opening_start : (xs : List State) → opening start xs ≡ xs
opening_start xs =
    opening_by (λ ys. ys ≡ xs) start xs (λ e. refl) (λ (h : 1 ≤ moves start start). absurd (omega (arith, rises_not 0 0 (omega arith))))

pub opening_empty : (f : State) (xs : List State) → f.place ≡ 0 → f.paid ≡ 0 → opening f xs ≡ xs
opening_empty f xs e h =
    opening_by (λ ys. ys ≡ xs) f xs (λ q. refl)
    (λ (k : 1 ≤ moves start f). absurd (omega (arith, rises_not 0 f.place (omega arith), rises_not 0 f.paid (omega arith))))

pub opening_kept : (f : State) (xs : List State) → (f.place ≡ 0 → f.paid ≡ 0 → ⊥) → opening f xs ≡ f ∷ xs
opening_kept f xs h =
    opening_by (λ ys. ys ≡ f ∷ xs) f xs
    (λ e. absurd (h (ap (λ (u : State). u.place) (still_start f e)) (ap (λ (u : State). u.paid) (still_start f e))))
    (λ k. refl)
