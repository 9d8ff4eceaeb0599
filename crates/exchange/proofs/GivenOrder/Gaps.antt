-- Which orders have a plan: those in which each next unit can be covered where the one before it stands. Assumes nothing.
use mathlib.Core.Path.{◌≡◌, ap, ◌∙◌}
use mathlib.Core.Logic.{dite}
use mathlib.Core.List.{List, [], ◌∷◌}
use Prim.Native.Nat.{ℕ, zero, suc, ◌+◌, ◌*◌, ◌-◌, ◌≤◌, ◌<◌, min}
use native.Mathlib.Nat.{le_trans}
use native.Mathlib.Decide.{dec_le}
use native.Mathlib.Omega.{arith}
use Rattle.exchange.specs.Deal.{State, ends}
use Rattle.exchange.specs.Work.{Work, WorkSteps}
use Rattle.exchange.proofs.GivenOrder.Run.{run, state_eq, run_add, run_stays}
use Rattle.exchange.proofs.GivenOrder.Lead.{run_keeps}
use Rattle.exchange.proofs.GivenOrder.Farthest.{farthest_is}
use Rattle.exchange.proofs.GivenOrder.Greedy.{OnLine, Stands, goal, greedy, greedy_leads, cap_up, floor_up}

-- the most that is paid at each place covers the place after it
abbrev pub NoGap : Work → Type 0
NoGap w = (i : ℕ) → i < w.last → w.floor (suc i) ≤ w.cap i

module _ {w : Work} (o : OnLine w) where
  -- steps that pass from place i on cross what lies after it
  pub crossed : (i : ℕ) → i < w.last → (s : State) (xs : List State) → s.place ≤ i → WorkSteps w s xs → ends s xs ≡ goal w
      → w.floor (suc i) ≤ w.cap i
  crossed i h s [] k st e = let q : s.place ≡ w.last = ap (λ (u : State). u.place) e in absurd (omega arith)
  crossed i h s (t ∷ xs) k st e =
      dite
      (dec_le t.place i)
      (λ q. crossed i h t xs q st.1 e)
      (λ (q : t.place ≤ i → ⊥).
      let step = st.0 in
      let f = floor_up o (suc i) t.place (omega arith) step.in_deal in
      let c = cap_up o s.place i k (omega arith) in
      omega arith)

  module _ (n : NoGap w) where
    -- two steps of the run gain a place
    two_steps : (s : State) → Stands w s → (x : ℕ) → x ≤ w.last → x ≤ suc s.place → x ≤ (greedy w (greedy w s)).place
    two_steps s g zero h k = omega arith
    two_steps s g (suc i) h k =
        (farthest_is w.floor (w.cap s.place) w.last).greatest (suc i) h
        (le_trans (n i h) (cap_up o i s.place (omega arith) g.in_deal))

    climbs : (m : ℕ) (s : State) → Stands w s → w.last ≤ s.place + m → (run (greedy w) s (2 * m)).place ≡ w.last
    climbs zero s g h = let q = g.in_deal in omega arith
    climbs (suc m) s g h =
        let keeps = (greedy_leads o).keeps in
        let e : 2 * suc m ≡ suc (suc (2 * m)) = omega arith in
        let q = two_steps s g (min w.last (suc s.place)) (omega arith) (omega arith) in
        rw e (climbs m (greedy w (greedy w s)) (keeps _ (keeps s g)) (omega arith))

    arrives_at : (s : State) → Stands w s → run (greedy w) s (2 * (w.last - s.place) + 1) ≡ goal w
    arrives_at s g =
        let m = 2 * (w.last - s.place) in
        let u = run (greedy w) s m in
        let k : Stands w u = run_keeps (greedy_leads o) s g m in
        let e : u.place ≡ w.last = climbs (w.last - s.place) s g (omega arith) in
        let b = (greedy_leads o).onward u k in
        let t = (greedy_leads o).keeps u k in
        run_add (greedy w) s m 1 ∙ state_eq (omega arith) (ap w.cap e ∙ o.lawful.cap_last)

    -- from any state that stands the run arrives in two steps a place and one more, and is there from then on
    pub arrives_within : (s : State) → Stands w s → (k : ℕ) → 2 * (w.last - s.place) + 1 ≤ k → run (greedy w) s k ≡ goal w
    arrives_within s g k h =
        let m = 2 * (w.last - s.place) + 1 in
        let e : k ≡ m + (k - m) = omega arith in
        rw (e, run_add (greedy w) s m (k - m), arrives_at s g) (run_stays (greedy w) (goal w) (greedy_leads o).rests (k - m))
