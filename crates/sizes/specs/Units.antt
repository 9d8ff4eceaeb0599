-- All units of a contract with few items.
use Rattle.std.specs.Prelude.{cond, List, ℕ, leb, length}
use Rattle.contract.specs.Valid.{sum}

-- all units together, and 0 for more than eight items
unfoldable pub units_few : List ℕ → ℕ
units_few units = cond (leb (length units) 8) (sum units) 0
