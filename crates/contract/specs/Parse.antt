-- What a contract record says, or the number of its first refusal.
use Rattle.std.specs.Prelude.{true, false, List, ℕ, leb, length}
use Rattle.contract.specs.Res.{Res, bind, test, ok}
use Rattle.contract.specs.Contract.{Contract}
use Rattle.contract.specs.Field.{Head, head_at}
use Rattle.contract.specs.Segments.{segment_body}
use Rattle.contract.specs.Table.{table_body}
use Rattle.contract.specs.declared.Form.{Form}
use Rattle.contract.specs.declared.Form.TheVariants.{Ladder, UnitPrices, Table}

-- what follows the head, by the form
abbrev pub body_at : Form → List ℕ → Head → Res Contract
body_at Ladder s h = segment_body false s h
body_at UnitPrices s h = segment_body true s h
body_at Table s h = table_body s h

-- the contract, or the first refusal from 1 to 7
unfoldable pub parse : List ℕ → Res Contract
parse s = bind (head_at s) (λ h. body_at h.form s h)

-- a contract with areas for m costs and n values; 8: one is too short
unfoldable pub sized : Res Contract → ℕ → ℕ → Res Contract
sized r m n = bind r (λ k. test 8 (leb (length k.costs) m) (test 8 (leb (length k.values) n) (ok k)))

-- what a record says to a reader with areas for m costs and n values
unfoldable pub reading : List ℕ → ℕ → ℕ → Res Contract
reading s m n = sized (parse s) m n
