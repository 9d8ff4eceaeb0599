-- The way down through the rows that may take an offer of a row.
use Rattle.std.specs.Prelude.{Option, None, Some, IfSome, IfNone, ◌≡◌, ℕ, ◌+◌, ◌-◌, ◌≤◌, ◌<◌, List, T, get_or}
use Rattle.grid.specs.Rows.{rows_of}
use Rattle.exchange.specs.Forms.{holds_row}

-- a row that row b holds and that can pay this sum: it may take an offer of row b
pub record Open (us caps : List ℕ) (b need a : ℕ) : Type 0 where
  pub held : T (holds_row us a b)
  pub pays : need ≤ get_or caps a 0

-- no row has a cap above that of a row that holds it
pub record CapsRise (us caps : List ℕ) : Type 0 where
  pub cap_rises : (a b : ℕ) → a < rows_of us → b < rows_of us → T (holds_row us a b) → get_or caps a 0 ≤ get_or caps b 0

-- how many rows are left to go down through, from this row on; 0 where there is none
abbrev pub rows_left : Option ℕ → ℕ
rows_left None = 0
rows_left (Some row) = row + 1

-- this is the first open row on the way down from row a
pub record Down (us caps : List ℕ) (b need a : ℕ) (next : Option ℕ) : Type 0 where
  pub lower : rows_left next ≤ a
  pub opens : IfSome next (λ row. Open us caps b need row)
  pub passed : (r : ℕ) → rows_left next ≤ r → r < a → Open us caps b need r → ⊥

-- this row has one unit less of an item; there is none where there is no unit to take away or that row cannot pay
pub record OneLess (caps : List ℕ) (row stride has need : ℕ) (less : Option ℕ) : Type 0 where
  pub found : IfSome less (λ r. (0 < has) × (need ≤ get_or caps r 0) × (r ≡ row - stride))
  pub poor : IfNone less (0 < has → get_or caps (row - stride) 0 < need)
