-- What the functions that find a place and check a plan ask and give.
use Rattle.std.specs.Prelude.{◌≡◌, Bool, true, false, ◌&&◌, List, ℕ, ◌≤◌, leb, pos, length}
use Rattle.std.specs.Int.Signed.{le_z}
use Rattle.area.specs.Entries.{entries}
use Rattle.exchange.specs.Bounds.{upper_of, lower_of}
use Rattle.exchange.specs.Deal.{Deal, State, Plan}
use Rattle.exchange.specs.declared.Bounds.{Bounds}
use Rattle.line.specs.Segments.{spread}
use Rattle.line.specs.Code.{Fit, Known, At}
use Rattle.line.specs.declared.Cursor.{Cursor}
use Rattle.exchange.specs.declared.Sides.{Sides}
use Rattle.line.specs.declared.Totals.{Totals}

-- the place lies ahead of the cursor, or is the cursor's own
pub record Ahead (us cs vs : List ℕ) (c : Cursor) (place : ℕ) : Type 0 where
  pub fit : Fit us cs vs
  pub at : At us cs vs c
  pub from : c.place ≤ place
  pub within : place ≤ length (spread us cs)

-- the bounds of the cursor's place, by the totals
abbrev pub cursor_bounds : Sides → Totals → Cursor → Bounds
cursor_bounds s t c =
    record { lower = lower_of s.price t.value c.value s.buyer; upper = upper_of s.price t.cost c.cost s.supplier }

-- whether it is a step from a place of this cost with p paid to a later place of this value with q paid, by the totals
unfoldable pub passes : Sides → Totals → ℕ → ℕ → ℕ → ℕ → Bool
passes s t cost value p q =
    leb p q && leb q s.price && le_z (lower_of s.price t.value value s.buyer) (pos p)
    && le_z (pos q) (upper_of s.price t.cost cost s.supplier)

-- segments that fit, and areas with as many entries as the count says
pub record Brought (us cs vs : List ℕ) (t : Totals) (count : ℕ) (places sums : List ℕ) : Type 0 where
  pub known : Known us cs vs t
  pub places_hold : count ≤ length (entries 2 places)
  pub sums_hold : count ≤ length (entries 4 sums)

-- the test of a list of states: it is a plan, or it is none
pub record Judges (d : Deal) (xs : List State) (b : Bool) : Type 0 where
  pub yes : b ≡ true → Plan d xs
  pub no : b ≡ false → Plan d xs → ⊥
