-- Two working forms with the same limits at every row: the search finds the same in both. Assumes nothing.
use mathlib.Core.Path.{◌≡◌, refl, ap, ap₂, ◌∙◌}
use mathlib.Core.Bool.{Bool}
use mathlib.Core.List.{List, ◌∷◌}
use Prim.Native.Nat.{ℕ, zero, suc, ◌+◌, ◌≤◌, ◌<◌}
use native.Mathlib.Omega.{arith}
use lib.Dec.{leb}
use Rattle.exchange.specs.Deal.{State}
use Rattle.exchange.specs.Work.{Work, WorkSteps}
use Rattle.exchange.specs.Search.{least_floor, need, count, first_of, fits, forward, forwards}
use Rattle.exchange.proofs.GivenOrder.Run.{state_eq}

pub record Alike (w v : Work) : Type 0 where
  pub price_is : w.price ≡ v.price
  pub last_is : w.last ≡ v.last
  pub holds_is : (a b : ℕ) → w.holds a b ≡ v.holds a b
  pub cap_is : (a : ℕ) → a ≤ w.last → w.cap a ≡ v.cap a
  pub floor_is : (a : ℕ) → a ≤ w.last → w.floor a ≡ v.floor a

-- tests that agree have the same first number
pub first_ext : (f g : ℕ → Bool) (i k : ℕ) → ((b : ℕ) → i ≤ b → b < i + k → f b ≡ g b) → first_of f i k ≡ first_of g i k
unfolding first_of
first_ext f g i zero h = refl
first_ext f g i (suc k) h =
    let e : f i ≡ g i = h i (omega arith) (omega arith) in
    rw (e, first_ext f g (suc i) k (λ b m l. h b (omega arith) (omega arith)))

module _ {w v : Work} (s : Alike w v) (mark : ℕ) where
  least_alike : (f g : ℕ → ℕ) (a : ℕ) → a ≤ w.last → ((b : ℕ) → b ≤ w.last → f b ≡ g b) → (n : ℕ) → n ≤ suc w.last
      → least_floor w mark f a n ≡ least_floor v mark g a n
  unfolding least_floor
  least_alike f g a l h zero m = refl
  least_alike f g a l h (suc n) m =
      rw (s.holds_is a n, h n (omega arith), s.cap_is a l, s.floor_is n (omega arith), least_alike f g a l h n (omega arith))

  need_alike : (j a : ℕ) → a ≤ w.last → need w mark j a ≡ need v mark j a
  unfolding need
  need_alike zero a l = rw (s.last_is, s.price_is)
  need_alike (suc j) a l =
      least_alike (need w mark j) (need v mark j) a l (need_alike j) (suc w.last) (omega arith)
      ∙ ap (λ (n : ℕ). least_floor v mark (need v mark j) a (suc n)) s.last_is

  pub count_alike : (most : ℕ) → count w mark most ≡ count v mark most
  unfolding count
  count_alike most = first_ext (λ j. leb (need w mark j 0) 0) (λ j. leb (need v mark j 0) 0) 1 most (λ j m l. rw (need_alike j 0 (omega arith)))

  forward_alike : (j : ℕ) (x : State) → x.place ≤ w.last → forward w mark j x ≡ forward v mark j x
  unfolding forward
  forward_alike j x l =
      state_eq
      (first_ext (fits w (need w mark j) x) (fits v (need v mark j) x) 0 (suc w.last)
      (λ b m k. rw (s.holds_is x.place b, need_alike j b (omega arith), s.cap_is x.place l, s.floor_is b (omega arith)))
      ∙ ap (λ (n : ℕ). first_of (fits v (need v mark j) x) 0 (suc n)) s.last_is)
      (s.cap_is x.place l)

  -- along steps, which do not leave the rows
  pub forwards_alike : (j : ℕ) (x : State) → x.place ≤ w.last → WorkSteps w x (forwards w mark j x) → forwards w mark j x ≡ forwards v mark j x
  unfolding forwards
  forwards_alike zero x l c = refl
  forwards_alike (suc j) x l c =
      let e : forward w mark j x ≡ forward v mark j x = forward_alike j x l in
      let r : forwards w mark j (forward w mark j x) ≡ forwards v mark j (forward w mark j x) = forwards_alike j (forward w mark j x) c.0.in_deal c.1 in
      ap₂ (λ (y : State) (ys : List State). y ∷ ys) e (r ∙ ap (forwards v mark j) e)
