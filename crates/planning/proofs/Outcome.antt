-- From a plan in the areas to the promise, for every form. Assumes nothing.
use mathlib.Core.Path.{◌≡◌, refl, sym, subst}
use mathlib.Core.Bool.{true, false, and-eq-true_iff}
use mathlib.Core.List.{List, ◌++◌}
use Prim.Native.Nat.{ℕ, ◌+◌, ◌*◌, ◌≤◌}
use native.Mathlib.Omega.{arith}
use lib.ListN.{length, drop, replicate}
use lib.Seq.{length_front, length-take-le, drop-append_seam}
use borrow.Author.Tests.{leb-true}
use Rattle.area.specs.Entries.{entries}
use Rattle.contract.specs.Res.{Res, refused, ok, test}
use Rattle.contract.specs.Contract.{Contract}
use Rattle.contract.specs.declared.Form.{Form}
use Rattle.exchange.specs.Deal.{Deal, State, Plan}
use Rattle.exchange.specs.PlanIn.{plan_in}
use Rattle.exchange.specs.declared.Objective.{Objective}
use Rattle.planning.specs.Order.{names_order, deal_by, NamesChosen}
use Rattle.planning.specs.Areas.{Areas, has_room, room_for}
use Rattle.planning.specs.Promise.{Claimed, SuccessFor, roomed, PlansFor}
use Rattle.planning.proofs.LinePlan.{Laid}

-- the room that the areas have
pub record Room (u bytes : ℕ) (a : Areas) : Type 0 where
  pub places : 2 * u + 1 ≤ length (entries 2 a.places)
  pub sums : 2 * u + 1 ≤ length (entries 4 a.sums)
  pub order : 8 ≤ length a.order
  pub work : bytes ≤ length a.work

pub room : (u bytes : ℕ) (a : Areas) → has_room u bytes a ≡ true → Room u bytes a
unfolding has_room
room u bytes a e =
    let (((p, s), o), w) = simp and-eq-true_iff at e in
    record { places = leb-true _ _ p; sums = leb-true _ _ s; order = leb-true _ _ o; work = leb-true _ _ w }

-- eight order bytes stored: the area keeps its length and what lies after them
module _ (named order : List ℕ) (eight : length named ≡ 8) (long : 8 ≤ length order) where
  stored_length : length (named ++ drop 8 order) ≡ length order
  stored_length = length_front order named 8 (omega (arith, length-take-le 8 order long))

  stored_rest : drop 8 (named ++ drop 8 order) ≡ drop 8 order
  stored_rest = subst (λ m. drop m (named ++ drop 8 order) ≡ drop 8 order) eight (drop-append_seam named (drop 8 order))

-- what the areas hold after n steps were laid out along the order that is stored
pub record Written (aim : Objective) (k : Contract) (n : ℕ) (named : List ℕ) (a a' : Areas) : Type 0 where
  pub eight : length named ≡ 8
  pub long : 8 ≤ length a.order
  pub order_is : a'.order ≡ named ++ drop 8 a.order
  pub names : names_order k (named ++ drop 8 a.order) ≡ true
  pub goes : NamesChosen k (named ++ drop 8 a.order)
  pub laid : Laid (Claimed aim k.form) (deal_by k (named ++ drop 8 a.order)) n (plan_in n a'.places a'.sums) a.places a.sums a'.places a'.sums
  pub work_is : a'.work ≡ replicate (length a.work) 0

pub success : (aim : Objective) (k : Contract) (n : ℕ) (named : List ℕ) (a a' : Areas) → Written aim k n named a a' → SuccessFor aim k n a a'
success aim k n named a a' w =
    record {
      order = rw w.order_is w.names;
      chosen = rw w.order_is w.goes;
      ours = rw w.order_is w.laid.is_ours;
      places = w.laid.places_are;
      sums = w.laid.sums_are;
      order_length = rw w.order_is (stored_length named a.order w.eight w.long);
      later_order = rw w.order_is (stored_rest named a.order w.eight w.long);
      work = w.work_is;
    }

-- whatever is claimed, there are n steps
pub claimed_steps : (aim : Objective) (f : Form) (d : Deal) (n : ℕ) (ours : List State) → Claimed aim f d n ours → n ≡ length ours
claimed_steps Objective.Steps f d n ours h = h.steps
claimed_steps Objective.Payments f d n ours h = h.steps
claimed_steps Objective.Deliveries f d n ours h = h.steps
claimed_steps Objective.Moves f d n ours h = h.steps

-- and they are a plan
pub claimed_plan : (aim : Objective) (f : Form) (d : Deal) (n : ℕ) (ours : List State) → Claimed aim f d n ours → Plan d ours
claimed_plan Objective.Steps f d n ours h = h.plan
claimed_plan Objective.Payments f d n ours h = h.plan
claimed_plan Objective.Deliveries f d n ours h = h.plan
claimed_plan Objective.Moves f d n ours h = h.plan

-- ---- refusal 8

-- an area is too short
pub short_said : (aim : Objective) (k : Contract) (a : Areas) → room_for k a ≡ false → PlansFor aim (roomed k a) (refused 8) a a
short_said aim k a e = rw e (refl, refl)

-- the areas have room
pub room_said : (aim : Objective) (k : Contract) (answer : Res ℕ) (a a' : Areas) → room_for k a ≡ true → PlansFor aim (ok k) answer a a'
    → PlansFor aim (roomed k a) answer a a'
room_said aim k answer a a' e h = subst (λ b. PlansFor aim (test 8 b (ok k)) answer a a') (sym e) h
