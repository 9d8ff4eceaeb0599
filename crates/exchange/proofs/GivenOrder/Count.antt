-- Counting events along lists of steps: what a list of steps reaches with so many events, a leading run reaches in so many steps each.
-- Assumes nothing.
use mathlib.Core.Path.{◌≡◌, refl, ap}
use mathlib.Core.Bool.{Bool, cond}
use mathlib.Core.Logic.{dite}
use mathlib.Core.List.{List, [], ◌∷◌}
use Prim.Native.Nat.{ℕ, zero, suc, ◌+◌, ◌*◌, ◌-◌, ◌≤◌, ◌<◌}
use native.Mathlib.Nat.{zero-add}
use native.Mathlib.Decide.{dec_le}
use native.Mathlib.Omega.{arith}
use borrow.Author.Tests.{lt-ltb, le-ltb}
use Rattle.exchange.specs.Deal.{State, Chain, ends, Behind}
use Rattle.exchange.specs.Objectives.{rises, count}
use Rattle.exchange.proofs.GivenOrder.Run.{run, path, run_add, First, first_least}
use Rattle.exchange.proofs.GivenOrder.Lead.{Leads, behind_trans, behind_eq, run_onward, run_keeps}

-- ---- one event

pub rises_more : (a b : ℕ) → a < b → rises a b ≡ 1
unfolding rises
rises_more a b h = ap (λ (t : Bool). cond t 1 0) (lt-ltb a b h)

pub rises_not : (a b : ℕ) → b ≤ a → rises a b ≡ 0
unfolding rises
rises_not a b h = ap (λ (t : Bool). cond t 1 0) (le-ltb a b h)

pub rises_most : (a b : ℕ) → rises a b ≤ 1
rises_most a b = dite (dec_le b a) (λ h. omega (arith, rises_not a b h)) (λ (h : b ≤ a → ⊥). omega (arith, rises_more a b (omega arith)))

pub rises_none : (a b : ℕ) → rises a b ≡ 0 → b ≤ a
rises_none a b e = dite (dec_le b a) (λ h. h) (λ (h : b ≤ a → ⊥). absurd (omega (arith, rises_more a b (omega arith))))

-- ---- sums of measures

pub count_sum : (E F : State → State → ℕ) (s : State) (xs : List State) → count (λ s t. E s t + F s t) s xs ≡ count E s xs + count F s xs
count_sum E F s [] = refl
count_sum E F s (t ∷ xs) = omega (arith, count_sum E F t xs)

-- ---- lists of steps against a run

module _ {R : State → State → Type 0} {G : State → Type 0} {next : State → State} {goal : State} (l : Leads R G next goal) where
  later : (u : State) → G u → (j k : ℕ) → j ≤ k → Behind (run next u j) (run next u k)
  later u g j k h =
      let e : k ≡ j + (k - j) = omega arith in
      rw (e, run_add next u j (k - j)) (run_onward l (run next u j) (run_keeps l u g j) (k - j))

  -- from a state of H, which k steps of the run lead back to, a step without an event goes nowhere ahead
  pub record Events (measure : State → State → ℕ) (H : State → Type 0) (k : ℕ) : Type 0 where
    pub some : 1 ≤ k
    pub stands : (u : State) → H u → G u
    pub again : (u : State) → H u → H (run next u k)
    pub quiet : (s t u : State) → H u → Behind s u → R s t → measure s t ≡ 0 → Behind t u

  module _ {measure : State → State → ℕ} {H : State → Type 0} {k : ℕ} (v : Events measure H k) where
    -- where a list of steps ends after c events more, if it is then behind the run's k steps for each
    one_step : (s t u e : State) (c : ℕ) → H u → Behind s u → R s t → ((u : State) → H u → Behind t u → Behind e (run next u (k * c)))
        → (m : ℕ) → measure s t ≡ m → Behind e (run next u (k * (m + c)))
    one_step s t u e c h b r rest zero q = rw zero-add (rest u h (v.quiet s t u h b r q))
    one_step s t u e c h b r rest (suc m) q =
        let g = v.stands u h in
        let some = v.some in
        let ahead : Behind t (run next u k) = behind_trans (l.ahead s t u g b r) (later u g 1 k some) in
        let there = rest (run next u k) (v.again u h) ahead in
        behind_trans
        (rw run_add there)
        (later u g (k + k * c) (k * (suc m + c)) (omega arith))

    -- with so many events no list of steps is ahead of k steps of the run for each
    pub never_ahead : (s u : State) → H u → Behind s u → (xs : List State) → Chain R s xs
        → Behind (ends s xs) (run next u (k * count measure s xs))
    never_ahead s u h b [] c = behind_trans b (run_onward l u (v.stands u h) (k * 0))
    never_ahead s u h b (t ∷ xs) c =
        one_step s t u (ends t xs) (count measure t xs) h b c.0 (λ u h b. never_ahead t u h b xs c.1) (measure s t) refl

    -- where it arrives, the run has arrived within k steps for each event
    pub within : (s u : State) → H u → Behind s u → (xs : List State) → Chain R s xs → ends s xs ≡ goal
        → (n : ℕ) → First next u goal n → n ≤ k * count measure s xs
    within s u h b xs c e n a =
        let m = k * count measure s xs in
        first_least next a m
        (behind_eq (l.bounded _ (run_keeps l u (v.stands u h) m)) (rw (← e) (never_ahead s u h b xs c)))

-- ---- a run that makes an event in every other step at most

module _ (next : State → State) (measure : State → State → ℕ) (X Y : State → Type 0) (to_y : (s : State) → X s → Y (next s))
    (to_x : (s : State) → Y s → X (next s)) (one : (s : State) → measure s (next s) ≤ 1) (none : (s : State) → Y s → measure s (next s) ≡ 0) where
  -- from X the first step may make one, from Y the second
  every_other : (n : ℕ) (s : State) → (X s → 2 * count measure s (path next s n) ≤ n + 1) × (Y s → 2 * count measure s (path next s n) ≤ n)
  every_other zero s = (λ h. omega arith, λ h. omega arith)
  every_other (suc n) s =
      let rest = every_other n (next s) in (
        λ h. let r = rest.1 (to_y s h) in omega (arith, one s),
        λ h. let r = rest.0 (to_x s h) in omega (arith, none s h),
      )

  pub every_other_x : (n : ℕ) (s : State) → X s → 2 * count measure s (path next s n) ≤ n + 1
  every_other_x n s = (every_other n s).0

  pub every_other_y : (n : ℕ) (s : State) → Y s → 2 * count measure s (path next s n) ≤ n
  every_other_y n s = (every_other n s).1
