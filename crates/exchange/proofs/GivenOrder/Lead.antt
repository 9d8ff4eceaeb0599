-- A step function that no list of steps overtakes, and what follows from that alone: it is never behind, it arrives first, and where it
-- stands still before the goal no list of steps goes on. Assumes nothing.
use mathlib.Core.Path.{◌≡◌, refl, sym, ap, ◌∙◌}
use mathlib.Core.List.{List, [], ◌∷◌}
use Prim.Native.Nat.{ℕ, zero, suc, ◌≤◌}
use native.Mathlib.Nat.{le_refl, le_trans, add_comm}
use native.Mathlib.Omega.{arith}
use lib.ListN.{length}
use Rattle.exchange.specs.Deal.{State, Chain, ends, after, Behind}
use Rattle.exchange.proofs.GivenOrder.Run.{run, path, state_eq, run_add, run_stays, First, first_least}

-- next makes a step from every state of G to one of G, and no step R from a state behind gets ahead of it; nothing goes beyond the goal
pub record Leads (R : State → State → Type 0) (G : State → Type 0) (next : State → State) (goal : State) : Type 0 where
  pub steps : (s : State) → G s → R s (next s)
  pub keeps : (s : State) → G s → G (next s)
  pub onward : (s : State) → G s → Behind s (next s)
  pub ahead : (s t u : State) → G u → Behind s u → R s t → Behind t (next u)
  pub bounded : (s : State) → G s → Behind s goal
  pub rests : next goal ≡ goal

pub behind_refl : (s : State) → Behind s s
behind_refl s = record { place = le_refl _; paid = le_refl _ }

pub behind_trans : {s t u : State} → Behind s t → Behind t u → Behind s u
behind_trans b c = record { place = le_trans b.place c.place; paid = le_trans b.paid c.paid }

pub behind_eq : {s t : State} → Behind s t → Behind t s → s ≡ t
behind_eq b c = state_eq (omega arith) (omega arith)

after_all : (s : State) (xs : List State) → after s xs (length xs) ≡ ends s xs
after_all s [] = refl
after_all s (x ∷ xs) = after_all x xs

module _ {R : State → State → Type 0} {G : State → Type 0} {next : State → State} {goal : State} (l : Leads R G next goal) where
  pub run_keeps : (u : State) → G u → (k : ℕ) → G (run next u k)
  run_keeps u g zero = g
  run_keeps u g (suc k) = run_keeps (next u) (l.keeps u g) k

  pub run_onward : (u : State) → G u → (k : ℕ) → Behind u (run next u k)
  run_onward u g zero = behind_refl u
  run_onward u g (suc k) = behind_trans (l.onward u g) (run_onward (next u) (l.keeps u g) k)

  -- the run is a list of steps
  pub path_chain : (u : State) → G u → (n : ℕ) → Chain R u (path next u n)
  path_chain u g zero = tt
  path_chain u g (suc n) = (l.steps u g, path_chain (next u) (l.keeps u g) n)

  -- after equally many steps the run is never behind
  pub never_behind : (s u : State) → G u → Behind s u → (xs : List State) → Chain R s xs → (k : ℕ) → Behind (after s xs k) (run next u k)
  never_behind s u g b [] c k = behind_trans b (run_onward u g k)
  never_behind s u g b (x ∷ xs) c zero = b
  never_behind s u g b (x ∷ xs) c (suc k) = never_behind x (next u) (l.keeps u g) (l.ahead s x u g b c.0) xs c.1 k

  -- where a list of steps arrives that sets out from behind
  module _ (s u : State) (g : G u) (b : Behind s u) (xs : List State) (c : Chain R s xs) (e : ends s xs ≡ goal) where
    -- the run has arrived when it has
    arrived : run next u (length xs) ≡ goal
    arrived =
        behind_eq
        (l.bounded _ (run_keeps u g (length xs)))
        (rw (← e, ← after_all s xs) (never_behind s u g b xs c (length xs)))

    -- the run's first arrival is no later
    pub least : (n : ℕ) → First next u goal n → n ≤ length xs
    least n a = first_least next a (length xs) arrived

    -- the run stands still at the goal only
    pub stalled : (k : ℕ) → next (run next u k) ≡ run next u k → run next u k ≡ goal
    stalled k q =
        sym (run_stays next (run next u k) q (length xs))
        ∙ sym (run_add next u k (length xs))
        ∙ ap (run next u) (add_comm k (length xs))
        ∙ run_add next u (length xs) k
        ∙ ap (λ (v : State). run next v k) arrived
        ∙ run_stays next goal l.rests k
