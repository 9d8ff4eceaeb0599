-- Whether the rows, cells and areas suit, and whether the start is safe. Assumes nothing.
use Rattle.std.proofs.Common.{Some, None, sum}
use Rattle.std.proofs.lemmas.Option.{cond_some, none-some}
use Rattle.std.proofs.lemmas.List.Sums.{sum_by-cons}
use mathlib.Core.Path.{◌≡◌, refl, sym, ap, ◌∙◌}
use mathlib.Core.Logic.{◌↔◌}
use mathlib.Core.Bool.{Bool, true, false, cond, and-eq-true_iff}
use mathlib.Core.List.{List, [], ◌∷◌, foldr}
use Prim.Native.Nat.{ℕ, zero, suc, ◌+◌, ◌*◌, ◌≤◌, ◌<◌}
use native.Mathlib.Nat.{mul-le-mul_right}
use native.Mathlib.Omega.{arith}
use borrow.Author.Tests.{lt-ltb, le-leb, eq-eqb, ltb-true, leb-true, eqb-true}
use lib.Dec.{leb}
use lib.ListN.{length}
use Rattle.area.specs.Entries.{entries}
use Rattle.grid.specs.Rows.{rows_of}
use Rattle.grid.proofs.RowLaws.{rows_pos}
use Rattle.exchange.specs.Deal.{Safe}
use Rattle.exchange.specs.Forms.{table_terms, holds_row, table}
use Rattle.exchange.specs.Search.{most_steps}
use Rattle.exchange.proofs.TestLaws.{start_test↔}
use Rattle.search.specs.Promise.{suits}
use Rattle.search.specs.Layers.{Table, starts_by}
use Rattle.search.specs.declared.Terms.{Terms}

-- ---- units

-- fewer units than rows
pub units_few_lem : (us : List ℕ) → foldr ◌+◌ 0 us < rows_of us
unfolding rows_of
units_few_lem [] = omega arith
units_few_lem (u ∷ us) =
    let m : 1 * u ≤ rows_of us * u = mul-le-mul_right u (rows_pos us) in
    omega (arith, units_few_lem us)

-- all units, as `most_steps` adds them
pub units_sum : (us : List ℕ) → sum us ≡ foldr ◌+◌ 0 us
units_sum [] = refl
units_sum (u ∷ us) = sum_by-cons (λ x. x) u us ∙ ap (λ (n : ℕ). u + n) (units_sum us)

pub units_fit : (us : List ℕ) → rows_of us ≤ 128 → sum us < 128
units_fit us few = omega (arith, units_sum us, units_few_lem us)

one_row : (us : List ℕ) → foldr ◌+◌ 0 us ≡ 0 → rows_of us ≡ 1
unfolding rows_of
one_row [] e = refl
one_row (u ∷ us) e =
    let z : u ≡ 0 = omega arith in
    rw (one_row us (omega arith), z)

-- two rows take a unit
pub some_units : (us : List ℕ) → 1 < rows_of us → 0 < foldr ◌+◌ 0 us
some_units us h = go (foldr ◌+◌ 0 us) refl
  where
    go : (n : ℕ) → foldr ◌+◌ 0 us ≡ n → 0 < n
    go zero e = absurd (omega (arith, one_row us e))
    go (suc n) e = omega arith

-- ---- what suits

-- 2 to 128 rows, cells for each, and room in the areas
pub record Suits (us costs values places sums work : List ℕ) : Type 0 where
  pub some : 1 < rows_of us
  pub few : rows_of us ≤ 128
  pub costs_all : length costs ≡ rows_of us
  pub values_all : length values ≡ rows_of us
  pub places_room : most_steps us ≤ length (entries 2 places)
  pub sums_room : most_steps us ≤ length (entries 4 sums)
  pub work_room : rows_of us * (most_steps us + 1) ≤ length work

module _ (us costs values places sums work : List ℕ) where
  pub suits_is : suits us costs values places sums work ≡ true → Suits us costs values places sums work
  unfolding suits
  suits_is e =
      let a = (and-eq-true_iff _ _).0 e in
      let b = (and-eq-true_iff _ _).0 a.0 in
      let c = (and-eq-true_iff _ _).0 b.0 in
      let d = (and-eq-true_iff _ _).0 c.0 in
      let f = (and-eq-true_iff _ _).0 d.0 in
      let g = (and-eq-true_iff _ _).0 f.0 in
      record {
        some = ltb-true _ _ g.0;
        few = leb-true _ _ g.1;
        costs_all = eqb-true _ _ f.1;
        values_all = eqb-true _ _ d.1;
        places_room = leb-true _ _ c.1;
        sums_room = leb-true _ _ b.1;
        work_room = leb-true _ _ a.1;
      }

  suits_yes : Suits us costs values places sums work → suits us costs values places sums work ≡ true
  unfolding suits
  suits_yes s =
      rw (lt-ltb _ _ s.some, le-leb _ _ s.few, eq-eqb _ _ s.costs_all, eq-eqb _ _ s.values_all, le-leb _ _ s.places_room, le-leb _ _ s.sums_room)
      (le-leb _ _ s.work_room)

  pub most_none : (Suits us costs values places sums work → ⊥) → None ≡ cond (suits us costs values places sums work) (Some (most_steps us)) None
  most_none n = go (suits us costs values places sums work) refl
    where
      go : (x : Bool) → suits us costs values places sums work ≡ x → None ≡ cond x (Some (most_steps us)) None
      go true e = absurd (n (suits_is e))
      go false e = refl

  pub most_some : (n : ℕ) → n ≡ most_steps us → Suits us costs values places sums work
      → Some n ≡ cond (suits us costs values places sums work) (Some (most_steps us)) None
  most_some n e s = rw (suits_yes s, ← e)

  -- what the answer says of them
  pub fit : {n : ℕ} → Some n ≡ cond (suits us costs values places sums work) (Some (most_steps us)) None
      → (suits us costs values places sums work ≡ true) × (n ≡ most_steps us)
  fit {n} e =
      let x = cond_some (suits us costs values places sums work) (most_steps us) n (sym e) in
      (x.0, sym x.1)

-- the number of rows, if there are few
pub rows_fit : (us : List ℕ) {n : ℕ} → Some n ≡ cond (leb (rows_of us) 128) (Some (rows_of us)) None → (n ≡ rows_of us) × (rows_of us ≤ 128)
rows_fit us {n} e =
    let x = cond_some (leb (rows_of us) 128) (rows_of us) n (sym e) in
    (sym x.1, leb-true _ _ x.0)

pub rows_many : (us : List ℕ) → None ≡ cond (leb (rows_of us) 128) (Some (rows_of us)) None → rows_of us ≤ 128 → ⊥
rows_many us e h = none-some (rows_of us) (e ∙ rw (le-leb _ _ h))

-- ---- the start

pub start↔ : (t : Terms) (us costs values : List ℕ) → Table t us
    → (starts_by t costs values ≡ true) ↔ Safe (table t.sides us costs values) 0 0
start↔ t us costs values good = rw good.rows_are (start_test↔ (table_terms t.sides us costs values) (holds_row us))
