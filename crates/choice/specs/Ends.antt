-- The ends of an order as the code holds them: amounts by item, marks, and running sums.
use Rattle.std.specs.Prelude.{◌≡◌, Option, None, Some, Bool, true, false, not, ◌&&◌, List, [], ℕ, ◌≤◌, leb, length, get_or}
use Rattle.exchange.specs.Chosen.{at}
use Rattle.exchange.specs.Choice.{End, fits, better}
use Rattle.choice.specs.Promise.{numbered}
use Rattle.choice.specs.declared.order_end.OrderEnd.{OrderEnd}

-- whether an item is placed from the front or else from the back: from the front if a unit gives at least what it needs, from the back
-- if it gives more. The front gives costs and needs values, the back the other way round
abbrev pub placed_from : Bool → ℕ → ℕ → Bool
placed_from true need give = leb need give
placed_from false need give = not (leb give need)

-- the front or the back, by the amounts of the items and the slack there
abbrev pub end_of : Bool → List ℕ → List ℕ → List ℕ → ℕ → ℕ → End
end_of front units needs gives added taken =
    record {
      units = units;
      mine = λ j. placed_from front (at needs j) (at gives j);
      needs = at needs;
      gives = at gives;
      added = added;
      taken = taken;
    }

-- the same, as the code holds it
abbrev pub end_at : OrderEnd → End
end_at o = end_of o.front o.units.now o.needs.now o.gives.now o.added o.taken

-- an end with another slack
abbrev pub with_slack : End → ℕ → ℕ → End
with_slack e added taken =
    record { units = e.units; mine = e.mine; needs = e.needs; gives = e.gives; added = added; taken = taken }

-- an end of which only the marked items are left
abbrev pub left_of : End → List Bool → End
left_of e marks =
    record {
      units = e.units;
      mine = λ j. get_or marks j false && e.mine j;
      needs = e.needs;
      gives = e.gives;
      added = e.added;
      taken = e.taken;
    }

-- the number of an item, or n for none
abbrev pub item_or : ℕ → Option ℕ → ℕ
item_or n None = n
item_or n (Some i) = i

-- item j may be next and is to be taken rather than i
abbrev pub takes_over : End → ℕ → ℕ → Bool
takes_over e i j = fits e [] j && better e i j

-- an array holds the numbers from 1 of a list of items, and a count how many
pub record Holds (l items : List ℕ) (count : ℕ) : Type 0 where
  pub few : length l ≤ 8
  pub counts : count ≡ length l
  pub holds : items ≡ numbered l
