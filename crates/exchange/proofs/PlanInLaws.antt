-- A plan in two byte areas: its length, what was written there, and its steps one by one. Assumes nothing.
use mathlib.Core.Path.{◌≡◌, refl, ap}
use mathlib.Core.List.{List, [], ◌∷◌, map, ◌++◌}
use Prim.Native.Nat.{ℕ, zero, suc, ◌≤◌, ◌<◌}
use native.Mathlib.Omega.{arith}
use lib.ListN.{length, get_or, take, drop, length-map}
use lib.Seq.{take_at}
use Rattle.area.specs.Entries.{entries}
use Rattle.exchange.specs.Deal.{State, Chain, ends}
use Rattle.exchange.specs.PlanIn.{states, plan_in}

-- ---- lists of places and of paid totals

states_length : (ps qs : List ℕ) (n : ℕ) → n ≤ length ps → n ≤ length qs → length (states (take n ps) (take n qs)) ≡ n
unfolding states
states_length ps qs zero h k = refl
states_length [] qs (suc n) h k = absurd (omega arith)
states_length (p ∷ ps) [] (suc n) h k = absurd (omega arith)
states_length (p ∷ ps) (q ∷ qs) (suc n) h k = ap suc (states_length ps qs n (omega arith) (omega arith))

states_map : (xs : List State) → states (map (λ s. s.place) xs) (map (λ s. s.paid) xs) ≡ xs
unfolding states
states_map [] = refl
states_map (x ∷ xs) = ap (λ (r : List State). x ∷ r) (states_map xs)

-- state i
abbrev state_of : List ℕ → List ℕ → ℕ → State
state_of ps qs i = record { place = get_or ps i 0; paid = get_or qs i 0 }

states_from : (ps qs : List ℕ) (n i : ℕ) → i < n → n ≤ length ps → n ≤ length qs
    → drop i (states (take n ps) (take n qs)) ≡ state_of ps qs i ∷ drop (suc i) (states (take n ps) (take n qs))
unfolding states
states_from ps qs zero i h k l = absurd (omega arith)
states_from [] qs (suc n) i h k l = absurd (omega arith)
states_from (p ∷ ps) [] (suc n) i h k l = absurd (omega arith)
states_from (p ∷ ps) (q ∷ qs) (suc n) zero h k l = refl
states_from (p ∷ ps) (q ∷ qs) (suc n) (suc i) h k l = states_from ps qs n i (omega arith) (omega arith) (omega arith)

states_end : (s : State) (ps qs : List ℕ) (i : ℕ) → i < length ps → i < length qs → ends s (states (take (suc i) ps) (take (suc i) qs)) ≡ state_of ps qs i
unfolding states
states_end s [] qs i h k = absurd (omega arith)
states_end s (p ∷ ps) [] i h k = absurd (omega arith)
states_end s (p ∷ ps) (q ∷ qs) zero h k = refl
states_end s (p ∷ ps) (q ∷ qs) (suc i) h k = states_end _ ps qs i (omega arith) (omega arith)

module _ (R : State → State → Type 0) where
  states_step : (s : State) (ps qs : List ℕ) (n i : ℕ) → i < n → n ≤ length ps → n ≤ length qs → Chain R s (states (take n ps) (take n qs))
      → R (ends s (states (take i ps) (take i qs))) (state_of ps qs i)
  unfolding states
  states_step s ps qs zero i h k l r = absurd (omega arith)
  states_step s [] qs (suc n) i h k l r = absurd (omega arith)
  states_step s (p ∷ ps) [] (suc n) i h k l r = absurd (omega arith)
  states_step s (p ∷ ps) (q ∷ qs) (suc n) zero h k l r = r.0
  states_step s (p ∷ ps) (q ∷ qs) (suc n) (suc i) h k l r = states_step _ ps qs n i (omega arith) (omega arith) (omega arith) r.1

  states_next : (s : State) (ps qs : List ℕ) (i : ℕ) → i < length ps → i < length qs → Chain R s (states (take i ps) (take i qs))
      → R (ends s (states (take i ps) (take i qs))) (state_of ps qs i) → Chain R s (states (take (suc i) ps) (take (suc i) qs))
  unfolding states
  states_next s [] qs i h k r m = absurd (omega arith)
  states_next s (p ∷ ps) [] i h k r m = absurd (omega arith)
  states_next s (p ∷ ps) (q ∷ qs) zero h k r m = (m, tt)
  states_next s (p ∷ ps) (q ∷ qs) (suc i) h k r m = (r.0, states_next _ ps qs i (omega arith) (omega arith) r.1 m)

-- ---- the plan in two areas

-- what is written at the front of the areas is the plan there
pub plan_in_lem : (xs : List State) (places sums ys zs : List ℕ) → entries 2 places ≡ map (λ s. s.place) xs ++ ys
    → entries 4 sums ≡ map (λ s. s.paid) xs ++ zs → plan_in (length xs) places sums ≡ xs
unfolding plan_in
plan_in_lem xs places sums ys zs e f =
    rw (e, f, take_at (map (λ s. s.place) xs) ys (length xs) (length-map xs _), take_at (map (λ s. s.paid) xs) zs (length xs) (length-map xs _))
    (states_map xs)

module _ (places sums : List ℕ) where
  -- entry i of both areas
  abbrev pub entry_in : ℕ → State
  entry_in i = state_of (entries 2 places) (entries 4 sums) i

  pub plan_none : plan_in 0 places sums ≡ []
  unfolding plan_in states
  plan_none = refl

  module _ (n : ℕ) (h : n ≤ length (entries 2 places)) (k : n ≤ length (entries 4 sums)) where
    pub plan_length : length (plan_in n places sums) ≡ n
    unfolding plan_in
    plan_length = states_length (entries 2 places) (entries 4 sums) n h k

    -- from entry i on
    pub plan_from : (i : ℕ) → i < n → drop i (plan_in n places sums) ≡ entry_in i ∷ drop (suc i) (plan_in n places sums)
    unfolding plan_in
    plan_from i l = states_from (entries 2 places) (entries 4 sums) n i l h k

    -- each entry of a chain is related to where the entries before it end
    pub plan_step : (R : State → State → Type 0) (s : State) → Chain R s (plan_in n places sums)
        → (i : ℕ) → i < n → R (ends s (plan_in i places sums)) (entry_in i)
    unfolding plan_in
    plan_step R s r i l = states_step R s (entries 2 places) (entries 4 sums) n i l h k r

  module _ (i : ℕ) (h : i < length (entries 2 places)) (k : i < length (entries 4 sums)) where
    -- a chain goes on by one entry that is so related
    pub plan_next : (R : State → State → Type 0) (s : State) → Chain R s (plan_in i places sums)
        → R (ends s (plan_in i places sums)) (entry_in i) → Chain R s (plan_in (suc i) places sums)
    unfolding plan_in
    plan_next R s = states_next R s (entries 2 places) (entries 4 sums) i h k

    pub plan_end : (s : State) → ends s (plan_in (suc i) places sums) ≡ entry_in i
    unfolding plan_in
    plan_end s = states_end s (entries 2 places) (entries 4 sums) i h k
