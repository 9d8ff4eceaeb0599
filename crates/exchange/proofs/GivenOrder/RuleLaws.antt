-- The rule for a given order is the greedy step of the working form. Assumes nothing.
use mathlib.Core.Path.{◌≡◌, refl, ap}
use mathlib.Core.List.{List, ◌∷◌}
use Prim.Native.Nat.{ℕ, zero, suc}
use lib.ListN.{length}
use Rattle.exchange.specs.Deal.{Deal, State, ends, end}
use Rattle.exchange.specs.Rule.{reach, rule, ruled}
use Rattle.exchange.specs.Work.{work_of}
use Rattle.exchange.specs.Arrival.{Arrives}
use Rattle.exchange.proofs.Bridge.{reach_floor}
use Rattle.exchange.proofs.GivenOrder.Run.{run, path, ends_path, First}
use Rattle.exchange.proofs.GivenOrder.Farthest.{farthest}
use Rattle.exchange.proofs.GivenOrder.Greedy.{greedy}

module _ (d : Deal) where
  reach_farthest : (p n : ℕ) → reach d p n ≡ farthest (work_of d).floor p n
  unfolding reach farthest
  reach_farthest p zero = refl
  reach_farthest p (suc n) = rw (reach_floor d (suc n) p, reach_farthest p n)

  pub rule_greedy : (s : State) → rule d s ≡ greedy (work_of d) s
  unfolding rule
  rule_greedy s = rw (reach_farthest s.paid d.last)

  pub ruled_path : (s : State) (n : ℕ) → ruled d s n ≡ path (greedy (work_of d)) s n
  unfolding ruled
  ruled_path s zero = refl
  ruled_path s (suc n) = rw (rule_greedy s) (ap (λ (xs : List State). greedy (work_of d) s ∷ xs) (ruled_path (greedy (work_of d) s) n))

  pub ruled_length : (s : State) (n : ℕ) → length (ruled d s n) ≡ n
  unfolding ruled
  ruled_length s zero = refl
  ruled_length s (suc n) = ap suc (ruled_length (rule d s) n)

  pub ruled_run : (s : State) (n : ℕ) → ends s (ruled d s n) ≡ run (greedy (work_of d)) s n
  ruled_run s n = rw (ruled_path s n) (ends_path (greedy (work_of d)) s n)

  pub arrives_first : (s : State) (n : ℕ) → Arrives d s n → First (greedy (work_of d)) s (end d) n
  arrives_first s n a = record { there = rw (← ruled_run s n) a.there; not_before = λ k h. rw (← ruled_run s k) (a.not_before k h) }

  pub first_arrives : (s : State) (n : ℕ) → First (greedy (work_of d)) s (end d) n → Arrives d s n
  first_arrives s n a = record { there = rw (ruled_run s n) a.there; not_before = λ k h. rw (ruled_run s k) (a.not_before k h) }
