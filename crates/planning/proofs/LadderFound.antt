-- A ladder that was found in its record: its last place, and its rises. Assumes nothing.
use mathlib.Core.Path.{◌≡◌, refl, ◌∙◌, ap, subst}
use mathlib.Core.List.{List, [], ◌∷◌}
use Prim.Native.Nat.{ℕ, ◌+◌, ◌≤◌, ◌<◌}
use native.Mathlib.Omega.{arith}
use lib.ListN.{length}
use Rattle.area.proofs.Laws.{column_length}
use Rattle.contract.specs.Valid.{sum}
use Rattle.exchange.specs.Forms.{along}
use Rattle.record.specs.Find.{LadderFound, ladder_in}
use Rattle.record.specs.declared.Ladder as found
use Rattle.ladder.specs.Rises.{Lies}
use Rattle.planning.specs.Deals.{last_place}
use Rattle.planning.specs.Found.{ladder_of}

-- all units together
sum_along : (xs : List ℕ) → sum xs ≡ along (λ a. a) xs (length xs)
unfolding sum along
sum_along [] = refl
sum_along (a ∷ xs) = ap (λ (n : ℕ). a + n) (sum_along xs)

-- as many as there are
sum_of : (xs : List ℕ) (n : ℕ) → length xs ≡ n → sum xs ≡ along (λ a. a) xs n
sum_of xs n e = subst (λ (m : ℕ). sum xs ≡ along (λ a. a) xs m) e (sum_along xs)

-- ---- its last place, by the count

module _ (s : List ℕ) (l : found.Ladder) {x : ℕ} where
  pub ladder_above : l.count < x → last_place (ladder_in s l) < x
  ladder_above h = omega (arith, column_length 4 s l.first 8 l.count)

  pub ladder_within : x ≤ l.count → x ≤ last_place (ladder_in s l)
  ladder_within h = omega (arith, column_length 4 s l.first 8 l.count)

-- ---- its rises

module _ (s : List ℕ) (l : found.Ladder) (f : LadderFound s l) where
  pub lies : Lies (ladder_of l) s
  lies =
      record {
        within = omega (arith, f.ends);
        few = f.few;
        cost_is = f.cost_is ∙ sum_of _ _ (column_length 4 s l.first 8 l.count);
        value_is = f.value_is ∙ sum_of _ _ (column_length 4 s (l.first + 4) 8 l.count);
      }
