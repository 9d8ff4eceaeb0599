-- Answers and sides as numbers. Assumes nothing.
use mathlib.Core.Path.{◌≡◌, refl, ap, ◌∙◌}
use mathlib.Core.List.{List, map}
use Prim.Native.Nat.{ℕ, ◌+◌, ◌-◌, ◌/◌, ◌^◌, ◌≤◌, ◌<◌}
use native.Mathlib.Omega.{arith}
use lib.ListN.{length, length-map, length-append, replicate}
use Rattle.std.specs.Prelude.{Result, Ok, Err}
use Rattle.area.specs.Entries.{entries}
use Rattle.area.specs.Filled.{Filled}
use Rattle.area.proofs.Laws.{entries_length}
use Rattle.contract.specs.Res.{Res, refused, ok}
use Rattle.contract.specs.Contract.{Contract}
use Rattle.exchange.specs.Deal.{State}
use Rattle.exchange.specs.PlanIn.{plan_in}
use Rattle.exchange.specs.declared.Bounds.{Bounds}
use Rattle.exchange.specs.declared.Objective.{Objective}
use Rattle.planning.specs.Areas.{Areas}
use Rattle.planning.specs.Promise.{PlansFor, SuccessFor}
use Rattle.planning.proofs.Outcome.{claimed_steps}
use Rattle.planning.specs.Answer.{bounded_of}
use Rattle.planning.specs.declared.BoundsError.{BoundsError}
use Rattle.yolkgorge.specs.Number.{CountFits, numbered, bounds_number}

-- a refusal has no count
refused_fits : (answer : Res ℕ) {e : ℕ} → answer ≡ refused e → CountFits answer
refused_fits (refused d) f = tt
refused_fits (ok n) f = let z : ◌≡◌ {A = ℕ} 0 1 = cc in absurd (omega arith)

-- an area has at least as many entries as it holds numbers
filled_short : (w : ℕ) (xs before after : List ℕ) → Filled w xs before after → length xs ≤ length (entries w after)
filled_short w xs before after f =
    let zeros : List ℕ = replicate (length (entries w before) - length xs) 0 in
    let e : length (entries w after) ≡ length xs + length zeros = ap length f.entries_are ∙ length-append xs zeros in
    omega arith

-- the steps stand in the area of the places
success_fits : (aim : Objective) (k : Contract) (n : ℕ) (before after : Areas) → SuccessFor aim k n before after → length before.places < 2 ^ 64 → n < 2 ^ 63
success_fits aim k n before after s h =
    let ours : List State = plan_in n after.places after.sums in
    let steps : n ≡ length ours = claimed_steps aim _ _ n ours s.ours in
    let same : length (map (λ t. t.place) ours) ≡ length ours = length-map ours (λ t. t.place) in
    let there : length (map (λ t. t.place) ours) ≤ length (entries 2 after.places) = filled_short 2 _ _ _ s.places in
    let half : length (entries 2 after.places) ≡ length after.places / 2 = entries_length 2 after.places in
    let kept : length after.places ≡ length before.places = s.places.length_kept in
    omega arith

-- the step count of a plan has room in 64 bits with a sign
pub count_fits : (aim : Objective) (ahead : Res Contract) (answer : Res ℕ) (before after : Areas) → PlansFor aim ahead answer before after
    → length before.places < 2 ^ 64 → CountFits answer
count_fits aim (refused e) answer before after p h = refused_fits answer p.0
count_fits aim (ok k) (refused e) before after p h = tt
count_fits aim (ok k) (ok n) before after p h = success_fits aim k n before after p h

-- bounds by the number of their error
pub bounds_numbered : (r : Result Bounds BoundsError) → bounded_of r ≡ numbered bounds_number r
bounds_numbered (Ok b) = refl
bounds_numbered (Err (BoundsError.Refused e)) = refl
bounds_numbered (Err BoundsError.WrongOrder) = refl
