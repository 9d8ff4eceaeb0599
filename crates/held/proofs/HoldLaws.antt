-- Rows held, item by item from the last to the first. Assumes nothing.
use mathlib.Core.Path.{◌≡◌}
use mathlib.Core.Bool.{◌&&◌}
use mathlib.Core.List.{List}
use Prim.Native.Nat.{ℕ, ◌+◌, ◌/◌, ◌%◌, ◌<◌}
use native.Mathlib.Numerals.{add-one}
use lib.Dec.{leb}
use lib.ListN.{length, get_or, drop}
use lib.Seq.{drop-cons}
use Rattle.grid.specs.Rows.{rows_of}
use Rattle.exchange.specs.Forms.{holds_row}

-- one item more, from the end
pub holds_cons : (j : ℕ) (us : List ℕ) (a b : ℕ) → j < length us
    → holds_row (drop j us) a b ≡ (leb (a / rows_of (drop (j + 1) us) % (get_or us j 0 + 1)) (b / rows_of (drop (j + 1) us) % (get_or us j 0 + 1)) && holds_row (drop (j + 1) us) a b)
unfolding holds_row
holds_cons j us a b h = rw (add-one, drop-cons us j 0 h)
