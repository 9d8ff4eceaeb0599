-- What the private functions ask and give: a ladder is a line of segments with one unit each.
use Rattle.std.specs.Prelude.{◌≡◌, List, ℕ, replicate}
use Rattle.exchange.specs.Deal.{Deal}
use Rattle.line.specs.Code as line
use Rattle.line.specs.Course.{Course, deal_of}
use Rattle.line.specs.declared.Cursor.{Cursor}
use Rattle.ladder.specs.Rises.{costs_in, values_in}
use Rattle.ladder.specs.declared.Ladder.{Ladder}
use Rattle.ladder.specs.declared.rises.Rung.{Rung}

-- one unit in each segment
abbrev pub ones_in : Ladder → List ℕ
ones_in l = replicate l.all.units 1

-- the line of these segments
abbrev pub course_of : Ladder → List ℕ → Course
course_of l s = record { sides = l.sides; all = l.all; units = ones_in l; costs = costs_in l s; values = values_in l s }

-- the deal along them
abbrev pub line_in : Ladder → List ℕ → Deal
line_in l s = deal_of (course_of l s)

-- the cursor of a rung: each unit is a segment
abbrev pub cursor_of : Rung → Cursor
cursor_of c = record { place = c.place; segment = c.place; used = 0; cost = c.cost; value = c.value }

-- the rung stands at its place, with the cost and value so far
abbrev pub At : Ladder → List ℕ → Rung → Type 0
At l s c = line.At (ones_in l) (costs_in l s) (values_in l s) (cursor_of c)

-- the rung stands at the place
pub record There (l : Ladder) (s : List ℕ) (c : Rung) (place : ℕ) : Type 0 where
  pub at : At l s c
  pub place_is : c.place ≡ place
