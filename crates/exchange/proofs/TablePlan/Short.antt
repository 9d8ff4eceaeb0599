-- Short plans: where a plan exists, there is one of at most 2U + 1 steps, U being the units of the last row. Its rows rise at most U times;
-- at each pay the most, then deliver the next, and at the end pay. Assumes nothing.
use mathlib.Core.Path.{◌≡◌, refl, sym, subst}
use mathlib.Core.List.{List, [], ◌∷◌}
use Prim.Native.Nat.{ℕ, suc, ◌+◌, ◌*◌, ◌≤◌, ◌<◌}
use native.Mathlib.Decide.{ℕ_discrete}
use native.Mathlib.Omega.{arith}
use lib.Dec.{T}
use Rattle.exchange.specs.Deal.{State, start, ends}
use Rattle.exchange.specs.Work.{Work, Lawful, WorkSteps, WorkPlan}
use Rattle.exchange.specs.Search.{need}
use Rattle.exchange.proofs.GivenOrder.Greedy.{goal}
use Rattle.exchange.proofs.TablePlan.Need.{need_le, steps_need}

-- a row that holds the units of another row has more units
abbrev pub UnitsRise : Work → (ℕ → ℕ) → Type 0
UnitsRise w units = (a b : ℕ) → a ≤ w.last → b ≤ w.last → T (w.holds a b) → (a ≡ b → ⊥) → units a < units b

-- a number of steps, at least one and at most 2U + 1, after which the start needs nothing
pub record Short (w : Work) (mark : ℕ) (units : ℕ → ℕ) : Type 0 where
  pub steps : ℕ
  pub some : 1 ≤ steps
  pub few : steps ≤ 2 * units w.last + 1
  pub enough : need w mark steps 0 ≤ 0

module _ (w : Work) (mark : ℕ) (law : Lawful w) where
  -- a plan sets out from where no payment is needed
  start_covered : (xs : List State) → WorkPlan w xs → w.floor 0 ≤ 0
  start_covered [] h = subst (λ (s : State). w.floor s.place ≤ s.paid) (sym h.arrives) law.floor_last
  start_covered (t ∷ ts) h =
      let st = h.steps.0 in
      omega (arith, law.floor_rises 0 t.place (omega arith) st.in_deal (law.holds_start _))

  module _ (units : ℕ → ℕ) (rise : UnitsRise w units) where
    -- a small number of steps, for which the most that may be paid at row a is enough
    record From (a : ℕ) : Type 0 where
      pub steps : ℕ
      pub few : steps + 2 * units a ≤ 2 * units w.last
      pub enough : need w mark steps a ≤ w.cap a

    shorten : (s : State) (xs : List State) → s.place ≤ w.last → WorkSteps w s xs → ends s xs ≡ goal w → From s.place
    shorten s [] i c e =
        subst (λ (t : State). From t.place) (sym e)
        (record { steps = 0; few = omega arith; enough = omega (arith, steps_need w mark (goal w) [] tt refl, law.cap_last) })
    shorten s (t ∷ ts) i c e = go (shorten t ts c.0.in_deal c.1 e) (ℕ_discrete s.place t.place)
      where
        go : From t.place → Dec (s.place ≡ t.place) → From s.place
        go x (yes q) = subst From (sym q) x
        go x (no n) =
            let st = c.0 in
            let a = s.place in
            let b = t.place in
            let k = x.steps in
            let stay : need w mark (suc k) b ≤ w.floor b = need_le w mark k b b st.in_deal (law.holds_self b) x.enough in
            let on : need w mark (suc (suc k)) a ≤ w.floor b = need_le w mark (suc k) a b st.in_deal st.delivers (omega arith) in
            record { steps = suc (suc k); few = omega (arith, x.few, rise a b i st.in_deal st.delivers n); enough = omega arith }

    pub short : (xs : List State) → WorkPlan w xs → Short w mark units
    short xs h =
        let x = shorten start xs (omega arith) h.steps h.arrives in
        let n = need_le w mark x.steps 0 0 (omega arith) (law.holds_self 0) x.enough in
        record { steps = suc x.steps; some = omega arith; few = omega (arith, x.few); enough = omega (arith, start_covered xs h) }
