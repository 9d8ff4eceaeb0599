-- Order bytes that name items from 1.
use Rattle.std.specs.Prelude.{Bool, true, ◌&&◌, List, ℕ, zero, suc, eqb}
use Rattle.exchange.specs.Forms.{occurs}

-- whether each of the items 1 to n stands once
unfoldable pub each_once : ℕ → List ℕ → Bool
each_once zero bytes = true
each_once (suc j) bytes = eqb (occurs (suc j) bytes) 1 && each_once j bytes
