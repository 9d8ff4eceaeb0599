-- The states that one function makes from a first state: after k steps, as a list, and when it arrives. Assumes nothing.
use mathlib.Core.Path.{◌≡◌, refl, sym, ap}
use mathlib.Core.Logic.{dite}
use mathlib.Core.List.{List, [], ◌∷◌}
use Prim.Native.Nat.{ℕ, zero, suc, ◌+◌, ◌≤◌, ◌<◌}
use native.Mathlib.Nat.{zero-add, suc-add}
use native.Mathlib.Decide.{dec_le, ℕ_discrete}
use native.Mathlib.Omega.{arith}
use Rattle.exchange.specs.Deal.{State, ends, after}

-- the state after k steps from s
abbrev pub run : (State → State) → State → ℕ → State
run f s zero = s
run f s (suc k) = run f (f s) k

-- the states after 1 .. n steps from s
abbrev pub path : (State → State) → State → ℕ → List State
path f s zero = []
path f s (suc n) = f s ∷ path f (f s) n

pub state_eq : {s t : State} → s.place ≡ t.place → s.paid ≡ t.paid → s ≡ t
state_eq e g = λ i. record { place = e i; paid = g i }

same_state : (s t : State) → Dec (s ≡ t)
same_state s t = go (ℕ_discrete s.place t.place) (ℕ_discrete s.paid t.paid)
  where
    go : Dec (s.place ≡ t.place) → Dec (s.paid ≡ t.paid) → Dec (s ≡ t)
    go (yes e) (yes g) = yes (state_eq e g)
    go (yes e) (no n) = no (λ h. n (ap (λ (u : State). u.paid) h))
    go (no n) g = no (λ h. n (ap (λ (u : State). u.place) h))

module _ (f : State → State) where
  pub run_add : (s : State) (j k : ℕ) → run f s (j + k) ≡ run f (run f s j) k
  run_add s zero k = rw zero-add
  run_add s (suc j) k = rw suc-add (run_add (f s) j k)

  -- where a step moves nothing, none does
  pub run_stays : (s : State) → f s ≡ s → (k : ℕ) → run f s k ≡ s
  run_stays s e zero = refl
  run_stays s e (suc k) = rw e (run_stays s e k)

  pub ends_path : (s : State) (n : ℕ) → ends s (path f s n) ≡ run f s n
  ends_path s zero = refl
  ends_path s (suc n) = ends_path (f s) n

  -- a list that ends where no step moves stands, after any number of steps, where the run does
  pub after_path : (s : State) (n : ℕ) → f (run f s n) ≡ run f s n → (k : ℕ) → after s (path f s n) k ≡ run f s k
  after_path s zero e k = sym (run_stays s e k)
  after_path s (suc n) e zero = refl
  after_path s (suc n) e (suc k) = after_path (f s) n e k

  -- from s on, e is reached first after n steps
  pub record First (s e : State) (n : ℕ) : Type 0 where
    pub there : run f s n ≡ e
    pub not_before : (k : ℕ) → k < n → run f s k ≡ e → ⊥

  -- what is reached has been reached a first time
  pub first : (s e : State) (m : ℕ) → run f s m ≡ e → (n : ℕ) × First s e n
  first s e zero h = (0, record { there = h; not_before = λ k (l : k < 0). absurd (omega arith) })
  first s e (suc m) h = go (same_state s e) (first (f s) e m h)
    where
      go : Dec (s ≡ e) → (n : ℕ) × First (f s) e n → (n : ℕ) × First s e n
      go (yes q) r = (0, record { there = q; not_before = λ k (l : k < 0). absurd (omega arith) })
      go (no q) (n, r) = (suc n, record { there = r.there; not_before = later })
        where
          later : (k : ℕ) → k < suc n → run f s k ≡ e → ⊥
          later zero l = q
          later (suc k) l = r.not_before k (omega arith)

  pub first_least : {s e : State} {n : ℕ} → First s e n → (m : ℕ) → run f s m ≡ e → n ≤ m
  first_least {n = n} a m h = dite (dec_le n m) (λ q. q) (λ (q : n ≤ m → ⊥). absurd (a.not_before m (omega arith) h))
