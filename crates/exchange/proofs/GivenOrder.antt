-- The rule for a given order: it plans the deal wherever a plan exists, as fast as any plan, and stands still only where none exists.
-- Assumes nothing.
pub mod Run
pub mod Lead
pub mod Count
pub mod Starts
pub mod Opening
pub mod Farthest
pub mod Greedy
pub mod Gaps
pub mod RuleLaws
use mathlib.Core.Path.{◌≡◌, sym, ap, ◌∙◌}
use mathlib.Core.Logic.{◌↔◌}
use mathlib.Core.List.{List}
use Prim.Native.Nat.{ℕ, suc, ◌+◌, ◌*◌, ◌≤◌}
use native.Mathlib.Nat.{le_refl}
use native.Mathlib.Omega.{arith}
use lib.IntN.{pos}
use lib.Signed.{◌≤ℤ◌}
use lib.Dec.{leb}
use lib.ListN.{length}
use Rattle.exchange.specs.Deal.{Deal, State, Safe, Plan, start, end, ends, after, Behind}
use Rattle.exchange.specs.Rule.{rule, ruled}
use Rattle.exchange.specs.Work.{Rising, work_of}
use Rattle.exchange.specs.Arrival.{Arrives}
use Rattle.exchange.specs.Possible.{Possible}
use Rattle.exchange.proofs.Int.{≤_trans}
use Rattle.exchange.proofs.Bridge.{bridge, lawful, safe_within, start_covered, coins_low, coins_high, coins_rise}
use Rattle.exchange.proofs.GivenOrder.Run.{run, first, first_least, after_path}
use Rattle.exchange.proofs.GivenOrder.Lead as lead
use Rattle.exchange.proofs.GivenOrder.Greedy.{OnLine, Stands, greedy, greedy_leads, floor_up}
use Rattle.exchange.proofs.GivenOrder.Gaps.{NoGap, crossed, arrives_within}
use Rattle.exchange.proofs.GivenOrder.RuleLaws.{rule_greedy, ruled_path, ruled_run, arrives_first, first_arrives}

-- a deal along one order: places count units
module _ (d : Deal) (r : Rising d) (counts : (a b : ℕ) → d.holds a b ≡ leb a b) where
  pub on_line : OnLine (work_of d)
  on_line = record { lawful = lawful d r; counts = counts }

  stands : Safe d 0 0 → Stands (work_of d) start
  stands h = record { in_deal = omega arith; covered = start_covered d r h; afforded = omega arith }

  -- the rule's steps are steps
  pub ruled_plan : Safe d 0 0 → (n : ℕ) → ends start (ruled d start n) ≡ end d → Plan d (ruled d start n)
  ruled_plan h n e =
      (bridge d r (ruled d start n)).1
      (h, record { steps = rw (ruled_path d start n) (lead.path_chain (greedy_leads on_line) start (stands h) n); arrives = e })

  -- no plan has fewer steps
  pub ruled_least : (n : ℕ) → Arrives d start n → (xs : List State) → Plan d xs → n ≤ length xs
  ruled_least n a xs p =
      let q = (bridge d r xs).0 p in
      let leads = greedy_leads on_line in
      lead.least leads start start (stands q.0) (lead.behind_refl start) xs q.1.steps q.1.arrives n (arrives_first d start n a)

  -- after equally many steps no plan has delivered more or been paid more
  pub ruled_never_behind : (n : ℕ) → ends start (ruled d start n) ≡ end d → (xs : List State) → Plan d xs → (k : ℕ)
      → Behind (after start xs k) (after start (ruled d start n) k)
  ruled_never_behind n e xs p k =
      let q = (bridge d r xs).0 p in
      let leads = greedy_leads on_line in
      let g = greedy (work_of d) in
      let there : run g start n ≡ end d = rw (← ruled_run d start n) e in
      rw (ruled_path d start n, after_path g start n (ap g there ∙ leads.rests ∙ sym there) k)
      (lead.never_behind leads start start (stands q.0) (lead.behind_refl start) xs q.1.steps k)

  -- a step of the rule that moves nothing before the end: no plan exists
  pub stall_none : (k : ℕ) → rule d (ends start (ruled d start k)) ≡ ends start (ruled d start k)
      → (ends start (ruled d start k) ≡ end d → ⊥) → (xs : List State) → Plan d xs → ⊥
  stall_none k still e xs p =
      let q = (bridge d r xs).0 p in
      let leads = greedy_leads on_line in
      let there = lead.stalled leads start start (stands q.0) (lead.behind_refl start) xs q.1.steps q.1.arrives k in
      e (rw ruled_run (there (rw (ruled_run, rule_greedy) at still)))

  -- ---- which deals have a plan

  pub to_work : Possible d → NoGap (work_of d)
  to_work p i h =
      let c = coins_rise _ _ (p.no_gap i h) in
      let f = floor_up on_line (suc i) d.last h (le_refl _) in
      let l = (lawful d r).floor_last in
      omega arith

  -- within twice the last place and one steps the rule is at the end, and stays there
  pub ruled_arrives : Possible d → (k : ℕ) → 2 * d.last + 1 ≤ k → ends start (ruled d start k) ≡ end d
  ruled_arrives p k h = rw (ruled_run d start k) (arrives_within on_line (to_work p) start (stands p.start_safe) k (omega arith))

  -- so there is a first time
  pub arrival : Possible d → (n : ℕ) × Arrives d start n
  arrival p =
      let m = 2 * d.last + 1 in
      let f = first (greedy (work_of d)) start (end d) m (rw (← ruled_run d start m) (ruled_arrives p m (le_refl m))) in
      (f.0, first_arrives d start f.0 f.1)

  of_work : Safe d 0 0 → NoGap (work_of d) → Possible d
  of_work h n =
      record {
        start_safe = h;
        no_gap = λ i k.
            let c = n i k in
            let u : pos 0 ≤ℤ d.upper i = ≤_trans (safe_within d r 0 0 h).high (r.upper_rises 0 i (omega arith) (omega arith) (r.holds_start i)) in
            ≤_trans ((coins_low (d.lower (suc i)) _).1 (le_refl _)) ((coins_high _ 0 u _).1 (omega arith));
      }

  -- a plan exists exactly where the deal is possible
  pub plan_exists : ((xs : List State) × Plan d xs) ↔ Possible d
  plan_exists = (
    λ x.
        let q = (bridge d r x.0).0 x.1 in
        of_work q.0 (λ i h. crossed on_line i h start x.0 (omega arith) q.1.steps q.1.arrives),
    λ p. let a = arrival p in (ruled d start a.0, ruled_plan p.start_safe a.0 a.1.there),
  )

  -- "at most 2U + 1 steps"
  pub ruled_short : Safe d 0 0 → (n : ℕ) → Arrives d start n → n ≤ 2 * d.last + 1
  ruled_short h n a =
      let m = 2 * d.last + 1 in
      let p = plan_exists.0 (ruled d start n, ruled_plan h n a.there) in
      first_least (greedy (work_of d)) (arrives_first d start n a) m (rw (← ruled_run d start m) (ruled_arrives p m (le_refl m)))
