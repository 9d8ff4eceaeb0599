-- The printer's areas have room for every contract, and what planning leaves in them has room in the text. Assumes nothing.
use mathlib.Core.Path.{sym, ap}
use mathlib.Core.List.{List}
use Prim.Native.Nat.{ℕ, ◌+◌, ◌*◌, ◌-◌, ◌≤◌}
use native.Mathlib.Omega.{arith}
use lib.ListN.{length, replicate, length-append, length-map, length-replicate}
use borrow.Author.Tests.{le-leb}
use Rattle.area.specs.Entries.{entries}
use Rattle.area.specs.Filled.{Filled}
use Rattle.area.proofs.Laws.{entries_length}
use Rattle.contract.specs.Res.{Res, refused, ok}
use Rattle.contract.specs.Contract.{Contract}
use Rattle.contract.proofs.ParsedValid.ResLaws.{never}
use Rattle.exchange.specs.Deal.{State}
use Rattle.exchange.specs.PlanIn.{plan_in}
use Rattle.planning.specs.Areas.{Areas, has_room, Roomy}
use Rattle.planning.specs.Promise.{Plans, Success}
use Rattle.printer.specs.Printout.{places_lent, sums_lent, work_lent, lent}
use Rattle.printer.specs.Code.{Listed, Counted}

-- the printer's areas are enough for every contract
pub roomy : Roomy lent
unfolding has_room
roomy =
    let in_places : 2 * 1000 + 1 ≤ length (entries 2 lent.places) = omega (arith, entries_length 2 lent.places, length-replicate {A = ℕ} places_lent 0) in
    let in_sums : 2 * 1000 + 1 ≤ length (entries 4 lent.sums) = omega (arith, entries_length 4 lent.sums, length-replicate {A = ℕ} sums_lent 0) in
    let work : 128 * 256 ≤ length lent.work = omega (arith, length-replicate {A = ℕ} work_lent 0) in
    rw (le-leb _ _ in_places, le-leb _ _ in_sums, le-leb _ _ work)

-- what an area is filled with stands in it
filled_holds : (w : ℕ) (xs before after : List ℕ) → Filled w xs before after → length xs ≤ length (entries w after)
filled_holds w xs before after f = omega (arith, ap length f.entries_are, length-append xs (replicate (length (entries w before) - length xs) 0))

listed : (k : Contract) (n : ℕ) (after : Areas) → Success k n lent after → Listed n after.places after.sums
listed k n after s =
    let ours = plan_in n after.places after.sums in
    let in_places : n ≤ length (entries 2 after.places) = omega (arith, s.ours.steps, length-map ours (λ (t : State). t.place), filled_holds 2 _ _ _ s.places) in
    let in_sums : n ≤ length (entries 4 after.sums) = omega (arith, s.ours.steps, length-map ours (λ (t : State). t.paid), filled_holds 4 _ _ _ s.sums) in
    record { in_places = in_places; in_sums = in_sums; few = omega (arith, entries_length 2 after.places, s.places.length_kept, length-replicate {A = ℕ} places_lent 0) }

-- the steps that planning counts stand in the areas
pub counted : (said : Res Contract) (answer : Res ℕ) (after : Areas) → Plans said answer lent after → Counted answer after.places after.sums
counted said (refused e) after p = tt
counted (refused e) (ok n) after p = never (sym p.0)
counted (ok k) (ok n) after p = listed k n after p
