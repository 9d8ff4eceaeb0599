-- What the choice gives where items tie, and where clipped bounds would leave no room, by computation. Items are counted from 0. Assumes
-- nothing.
use mathlib.Core.Path.{◌≡◌, refl}
use mathlib.Core.Bool.{true, false}
use mathlib.Core.List.{[], ◌∷◌}
use mathlib.Core.Option.{some}
use lib.Dec.{leb}
use lib.IntN.{pos}
use lib.Signed.{le_z}
use Rattle.exchange.specs.Bounds.{unclipped_upper_of, unclipped_lower_of, upper_of, lower_of, least_price, most_price}
use Rattle.exchange.specs.Deal.{unclipped}
use Rattle.exchange.specs.Forms.{along, order_terms, in_order, occurs}
use Rattle.exchange.specs.Chosen.{slack}
use Rattle.exchange.specs.Choice.{sum_over, all_items, fits, better, best, placed, both_ends, choose}
use Rattle.exchange.specs.declared.Sides.{Sides}
use Rattle.exchange.proofs.TestLaws.{all_below, possible}

-- of (6, 4) twice and of (4, 4) and (5, 5), whose cost is their value, the lower number stands first; of (4, 6) twice, placed
-- backwards, the lower number stands last
ties :
    choose (record { price = 29; supplier = 9; buyer = 9 }) (1 ∷ 1 ∷ 1 ∷ 1 ∷ 1 ∷ 1 ∷ []) (4 ∷ 6 ∷ 4 ∷ 5 ∷ 6 ∷ 4 ∷ [])
    (6 ∷ 4 ∷ 4 ∷ 5 ∷ 4 ∷ 6 ∷ [])
    ≡ some (1 ∷ 4 ∷ 2 ∷ 3 ∷ 5 ∷ 0 ∷ [])
unfolding occurs sum_over all_items fits better best placed both_ends choose
ties = refl

-- P 5, the whole cost below, and cs 2
abbrev cheap : Sides
cheap = record { price = 5; supplier = 2; buyer = 0 }

-- for these, of (5, 5) and (0, 100) the first has room at the start between the unclipped bounds, -100 and 2, and is placed first; clipped
-- they are 0 and 2. The start is safe, so clipped bounds would lose a deal that has a plan
unclipped_room :
    (choose cheap (1 ∷ 1 ∷ []) (5 ∷ 0 ∷ []) (5 ∷ 100 ∷ []) ≡ some (0 ∷ 1 ∷ []))
    × (le_z (pos 5) (slack (unclipped (order_terms cheap (5 ∷ 0 ∷ []) (5 ∷ 100 ∷ []) (0 ∷ 1 ∷ [])) leb) 0) ≡ true)
    × (le_z (pos 5) (slack (in_order cheap (5 ∷ 0 ∷ []) (5 ∷ 100 ∷ []) (0 ∷ 1 ∷ [])) 0) ≡ false)
    × (possible (in_order cheap (5 ∷ 0 ∷ []) (5 ∷ 100 ∷ []) (0 ∷ 1 ∷ [])) ≡ true)
unfolding unclipped_upper_of unclipped_lower_of upper_of lower_of least_price most_price along occurs sum_over all_items fits better best placed both_ends choose all_below possible
unclipped_room = (refl, refl, refl, refl)
