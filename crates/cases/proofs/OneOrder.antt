-- Steps by the rule along one order are ours. Assumes nothing.
use mathlib.Core.Path.{◌≡◌, refl, sym, ap, ◌∙◌}
use mathlib.Core.Bool.{Bool, true, not, ◌&&◌, and-eq-true_iff, false≢true}
use mathlib.Core.Logic.{dite}
use mathlib.Core.List.{List, [], ◌∷◌}
use Prim.Native.Nat.{ℕ, zero, suc, ◌≤◌, ◌<◌}
use native.Mathlib.Nat.{le_antisymm}
use native.Mathlib.Decide.{dec_le}
use native.Mathlib.Omega.{arith}
use lib.Dec.{leb, ltb, eqb}
use lib.ListN.{length}
use borrow.Author.Tests.{leb-true, le-leb, lt-ltb, eqb-true, not-true}
use Rattle.contract.specs.declared.Form.{Form}
use Rattle.contract.specs.declared.Form.TheVariants.{Ladder, UnitPrices, Table}
use Rattle.exchange.specs.Deal.{Deal, State, Plan, start, end, ends}
use Rattle.exchange.specs.Arrival.{Arrives}
use Rattle.exchange.specs.Possible.{Possible}
use Rattle.exchange.specs.Rule.{rule, ruled}
use Rattle.exchange.specs.Work.{Rising, work_of}
use Rattle.exchange.specs.declared.Objective.{Objective}
use Rattle.exchange.specs.declared.Sides.{Sides}
use Rattle.exchange.proofs.FormLaws.{ladder_rising, order_rising}
use Rattle.exchange.proofs.GivenOrder.{plan_exists, on_line, ruled_plan}
use Rattle.exchange.proofs.GivenOrder.Farthest.{farthest, farthest_is}
use Rattle.exchange.proofs.GivenOrder.Greedy.{floor_up}
use Rattle.exchange.proofs.GivenOrder.Opening.{opening_start}
use Rattle.exchange.proofs.GivenOrder.RuleLaws.{rule_greedy}
use Rattle.exchange.proofs.GivenOrder.Run.{state_eq}
use Rattle.exchange.proofs.TestLaws.{start_safe, start_safe↔}
use Rattle.planning.specs.Deals.{deal_for}
use Rattle.planning.specs.Promise.{ByRule, StepsGo, Ours}
use Rattle.planning.proofs.LinePlan.{claimed}
use Rattle.cases.proofs.Tests.{at_end, end↔}

-- ---- deals along one order

-- a form whose units are delivered in one order
abbrev pub OneOrder : Form → Type 0
OneOrder Ladder = Unit {0}
OneOrder UnitPrices = Unit {0}
OneOrder Table = ⊥

-- a deal along one order: no bound falls, and places count units
pub record Line (d : Deal) : Type 0 where
  pub rises : Rising d
  pub counts : (a b : ℕ) → d.holds a b ≡ leb a b

pub form_line : (f : Form) → OneOrder f → (p : Sides) (units costs values σ : List ℕ) → Line (deal_for f p units costs values σ)
form_line Ladder o p units costs values σ = record { rises = ladder_rising p costs values; counts = λ a b. refl }
form_line UnitPrices o p units costs values σ = record { rises = order_rising p costs values σ; counts = λ a b. refl }
form_line Table o p units costs values σ = absurd o

form_rule : (f : Form) → OneOrder f → (d : Deal) (xs : List State) → ByRule d xs → StepsGo f d xs
form_rule Ladder o d xs g = g
form_rule UnitPrices o d xs g = g
form_rule Table o d xs g = absurd o

-- ---- the rule's steps, as they compute

module _ (d : Deal) where
  -- whether the rule goes from s to t: the place is covered by what is paid, the next one is not, and the most is paid
  abbrev goes : State → State → Bool
  goes s t =
      leb t.place d.last
      && leb ((work_of d).floor t.place) s.paid
      && not (ltb t.place d.last && leb ((work_of d).floor (suc t.place)) s.paid)
      && eqb t.paid ((work_of d).cap s.place)

  -- whether it goes from state to state
  unfoldable pub all_go : State → List State → Bool
  all_go s [] = true
  all_go s (t ∷ ts) = goes s t && all_go t ts

  -- whether no state ahead of the last one is the end, and that one is
  unfoldable pub ends_first : State → List State → Bool
  ends_first s [] = at_end d s
  ends_first s (t ∷ ts) = not (at_end d s) && ends_first t ts

  ends_first_lem : (s : State) (n : ℕ) → ends_first s (ruled d s n) ≡ true → Arrives d s n
  unfolding ends_first ruled
  ends_first_lem s zero e = record { there = (end↔ d s).0 e; not_before = λ k h. absurd (omega arith) }
  ends_first_lem s (suc n) e =
      let f = (and-eq-true_iff (not (at_end d s)) _).0 e in
      let rest = ends_first_lem (rule d s) n f.1 in
      record { there = rest.there; not_before = later rest (λ q. false≢true (sym (not-true _ f.0) ∙ (end↔ d s).1 q)) }
    where
      later : Arrives d (rule d s) n → (s ≡ end d → ⊥) → (k : ℕ) → k < suc n → ends s (ruled d s k) ≡ end d → ⊥
      later a no_end zero h q = no_end q
      later a no_end (suc k) h q = a.not_before k (omega arith) q

-- the rule's steps up to the end
pub record RuleSteps (d : Deal) (xs : List State) : Type 0 where
  pub safe : start_safe d ≡ true
  pub by_rule : all_go d start xs ≡ true
  pub first : ends_first d start xs ≡ true

module _ (d : Deal) (l : Line d) where
  rule_goes : (s t : State) → goes d s t ≡ true → rule d s ≡ t
  rule_goes s t e =
      let (((within, covered), last), paid) = simp and-eq-true_iff at e in
      let r = farthest_is (work_of d).floor s.paid d.last in
      rule_greedy d s
      ∙ state_eq
      (le_antisymm (no_farther (leb-true _ _ within) (leb-true _ _ covered) last) (r.greatest t.place (leb-true _ _ within) (leb-true _ _ covered)))
      (sym (eqb-true _ _ paid))
    where
      far : ℕ
      far = farthest (work_of d).floor s.paid d.last

      no_farther : t.place ≤ d.last → (work_of d).floor t.place ≤ s.paid
          → not (ltb t.place d.last && leb ((work_of d).floor (suc t.place)) s.paid) ≡ true → far ≤ t.place
      no_farther within covered q =
          dite
          (dec_le far t.place)
          (λ h. h)
          (λ (h : far ≤ t.place → ⊥).
          let r = farthest_is (work_of d).floor s.paid d.last in
          let o = on_line d l.rises l.counts in
          let here = floor_up o 0 t.place (omega arith) within in
          let up = floor_up o (suc t.place) far (omega arith) r.within in
          let next : (work_of d).floor (suc t.place) ≤ s.paid = omega (arith, r.covered (omega arith)) in
          let both : (ltb t.place d.last && leb ((work_of d).floor (suc t.place)) s.paid) ≡ true =
          rw (lt-ltb t.place d.last (omega (arith, r.within)), le-leb _ _ next) in
          absurd (false≢true (sym (not-true _ q) ∙ both)))

  rule_all : (s : State) (xs : List State) → all_go d s xs ≡ true → ruled d s (length xs) ≡ xs
  unfolding all_go ruled
  rule_all s [] e = refl
  rule_all s (t ∷ ts) e =
      let f = (and-eq-true_iff (goes d s t) _).0 e in
      rw (rule_goes s t f.0) (ap (λ (r : List State). t ∷ r) (rule_all t ts f.1))

  pub plan_possible : (xs : List State) → Plan d xs → Possible d
  plan_possible xs p = (plan_exists d l.rises l.counts).0 (xs, p)

  -- they are ours
  pub rule_ours : (xs : List State) → RuleSteps d xs → (f : Form) → OneOrder f → Ours f d (length xs) xs
  rule_ours xs s f o =
      let are = rule_all start xs s.by_rule in
      let arrives = ends_first_lem d start (length xs) (rw are s.first) in
      let plan = ruled_plan d l.rises l.counts ((start_safe↔ d).0 s.safe) (length xs) arrives.there in
      claimed f d l.rises l.counts (form_rule f o d) (plan_possible _ plan) (length xs) xs refl Objective.Steps
      (record { ruled_steps = length xs; arrives = arrives; steps_are = sym (opening_start (ruled d start (length xs)) ∙ are) })
