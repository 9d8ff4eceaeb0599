-- The choice of the order for unit prices in the working form, by running sums instead of bounds. Nothing here has to be believed: its laws say
-- that it gives the order of Chosen, and no other.
use Rattle.std.specs.Prelude.{Bool, not, cond, ◌&&◌, ◌||◌, List, [], ◌∷◌, ◌++◌, reverse, ℕ, zero, suc, ◌+◌, ◌*◌, leb, ltb, eqb, length}
use Rattle.std.proofs.Math.Option.{Option, none, some}
use Rattle.exchange.specs.Forms.{occurs}
use Rattle.exchange.specs.Chosen.{at}
use Rattle.exchange.specs.declared.Sides.{Sides}

-- the sum of w over all units of the items of a list
unfoldable pub sum_over : List ℕ → (ℕ → ℕ) → List ℕ → ℕ
sum_over units w [] = 0
sum_over units w (j ∷ items) = at units j * w j + sum_over units w items

-- the items below n
unfoldable pub all_items : ℕ → List ℕ
all_items zero = []
all_items (suc n) = n ∷ all_items n

-- one end of the order, from which items are placed one after the other: which items are placed from there, how much slack a unit of an
-- item needs, how much it gives back, and the slack at that end. The slack may be negative, so it is held as a difference, added − taken
pub record End : Type 0 where
  pub units : List ℕ
  pub mine : ℕ → Bool
  pub needs : ℕ → ℕ
  pub gives : ℕ → ℕ
  pub added : ℕ
  pub taken : ℕ

-- a unit of item j needs at most the slack after the items `done`
abbrev pub has_room : End → List ℕ → ℕ → Bool
has_room e done j = leb (e.taken + sum_over e.units e.needs done + e.needs j) (e.added + sum_over e.units e.gives done)

-- after the items `done`, item j may be next: it is placed from this end, does not stand there yet, and has room
unfoldable pub fits : End → List ℕ → ℕ → Bool
fits e done j = e.mine j && eqb (occurs j done) 0 && has_room e done j

-- item j is to be taken rather than i: i is no item, or j gives more than i, less what each needs
unfoldable pub better : End → ℕ → ℕ → Bool
better e i j = eqb i (length e.units) || ltb (e.gives i + e.needs j) (e.gives j + e.needs i)

-- of the items below k that may be next, the one that gives most, less what it needs, and the lower number on a tie; if none may,
-- the number of items, which is no item
unfoldable pub best : End → List ℕ → ℕ → ℕ
best e done zero = length e.units
best e done (suc k) = let i = best e done k in cond (fits e done k && better e i k) k i

-- the items placed from one end by k choices; where no item may be next, a choice places none
unfoldable pub placed : End → ℕ → List ℕ
placed e zero = []
placed e (suc k) =
    let done = placed e k in
    let j = best e done (length e.units) in
    cond (ltb j (length e.units)) (done ++ (j ∷ [])) done

-- item j is placed from the first place on
abbrev pub comes_first : List ℕ → List ℕ → ℕ → Bool
comes_first costs values j = leb (at values j) (at costs j)

-- the first place: its slack is vd(L) + cs + cd − vs(L). A unit needs its value and gives back its cost
abbrev pub front : Sides → List ℕ → List ℕ → List ℕ → End
front p units costs values =
    record {
      units = units;
      mine = comes_first costs values;
      needs = at values;
      gives = at costs;
      added = sum_over units (at values) (all_items (length units)) + (p.supplier + p.buyer);
      taken = sum_over units (at costs) (all_items (length units));
    }

-- the last place: its slack is cs + cd. Backwards, a unit needs its cost and gives back its value
abbrev pub back : Sides → List ℕ → List ℕ → List ℕ → End
back p units costs values =
    record {
      units = units;
      mine = λ j. not (comes_first costs values j);
      needs = at costs;
      gives = at values;
      added = p.supplier + p.buyer;
      taken = 0;
    }

-- the items from both ends, in order
unfoldable pub both_ends : Sides → List ℕ → List ℕ → List ℕ → List ℕ
both_ends p units costs values =
    placed (front p units costs values) (length units) ++ reverse (placed (back p units costs values) (length units))

-- the items in the order that is chosen; none if some item is not placed
unfoldable pub choose : Sides → List ℕ → List ℕ → List ℕ → Option (List ℕ)
choose p units costs values =
    let items = both_ends p units costs values in
    cond (eqb (length items) (length units)) (some items) none
