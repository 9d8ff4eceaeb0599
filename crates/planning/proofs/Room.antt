-- Areas that are roomy have room for a plan of every contract. Assumes nothing.
use mathlib.Core.Path.{◌≡◌, refl}
use mathlib.Core.Bool.{true, and-eq-true_iff}
use mathlib.Core.List.{List, [], ◌∷◌}
use Prim.Native.Nat.{ℕ, ◌+◌, ◌*◌, ◌≤◌}
use native.Mathlib.Nat.{mul-le-mul, mul-le-mul_right}
use native.Mathlib.Omega.{arith}
use lib.ListN.{length}
use borrow.Author.Tests.{leb-true, le-leb}
use Rattle.area.specs.Entries.{entries}
use Rattle.grid.specs.Rows.{rows_of}
use Rattle.contract.specs.Res.{Res, refused, ok, bind}
use Rattle.contract.specs.Contract.{Contract, count_of}
use Rattle.contract.specs.Parse.{parse}
use Rattle.contract.specs.Valid.{Valid, sum, in_range}
use Rattle.contract.proofs.ParsedValid.{parsed_valid}
use Rattle.contract.specs.declared.Form.{Form}
use Rattle.contract.specs.declared.Form.TheVariants.{Ladder, UnitPrices, Table}
use Rattle.planning.specs.Deals.{all_units}
use Rattle.planning.specs.Areas.{Areas, has_room, work_for, room_for, Roomy}
use Rattle.planning.specs.Promise.{roomed, ahead}
use Rattle.planning.proofs.Outcome.{room}

-- a table has more rows than units
more_rows : (us : List ℕ) → sum us + 1 ≤ rows_of us
unfolding sum rows_of
more_rows [] = omega arith
more_rows (u ∷ us) =
    let h = more_rows us in
    let one : 1 ≤ rows_of us = omega arith in
    omega (arith, mul-le-mul_right u one)

-- what a plan needs at most
record Needs (f : Form) (units costs : List ℕ) : Type 0 where
  few : all_units f units costs ≤ 1000
  work : work_for f units (all_units f units costs) ≤ 128 * 256

needs : (f : Form) (units costs : List ℕ) → in_range f (count_of f units costs) units ≡ true → Needs f units costs
unfolding in_range
needs Ladder units costs e = let (_, high) = simp and-eq-true_iff at e in record { few = leb-true _ _ high; work = omega arith }
needs UnitPrices units costs e = let (_, high) = simp and-eq-true_iff at e in record { few = leb-true _ _ high; work = omega arith }
needs Table units costs e =
    let (_, high) = simp and-eq-true_iff at e in
    let rows : rows_of units ≤ 128 = leb-true _ _ high in
    let all : 2 * sum units + 2 ≤ 256 = omega (arith, more_rows units) in
    record { few = omega arith; work = mul-le-mul rows all }

-- areas with room for more have room for less
room_falls : (u bytes : ℕ) (a : Areas) → u ≤ 1000 → bytes ≤ 128 * 256 → Roomy a → has_room u bytes a ≡ true
unfolding has_room
room_falls u bytes a h k r =
    let m = room 1000 (128 * 256) a r in
    let places : 2 * u + 1 ≤ length (entries 2 a.places) = omega (arith, m.places) in
    let sums : 2 * u + 1 ≤ length (entries 4 a.sums) = omega (arith, m.sums) in
    let work : bytes ≤ length a.work = omega (arith, m.work) in
    rw (le-leb _ _ places, le-leb _ _ sums, le-leb _ _ m.order, le-leb _ _ work)

roomy_for : (k : Contract) → Valid k → (a : Areas) → Roomy a → room_for k a ≡ true
roomy_for k v a r = let n = needs k.form k.units k.costs v.range in room_falls _ _ a n.few n.work r

-- so no refusal but the record's own stands ahead of 9
pub roomy_ahead : (bytes : List ℕ) (a : Areas) → Roomy a → ahead bytes a ≡ parse bytes
unfolding ahead
roomy_ahead bytes a r = go (parse bytes) refl
  where
    go : (x : Res Contract) → parse bytes ≡ x → bind x (λ k. roomed k a) ≡ x
    go (refused n) e = refl
    go (ok k) e = rw (roomy_for k (parsed_valid bytes k e) a r)
