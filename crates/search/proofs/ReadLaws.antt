-- What the arrays of the search say that a row needs. Assumes nothing.
use mathlib.Core.Path.{◌≡◌}
use mathlib.Core.List.{List}
use Prim.Native.Nat.{ℕ, ◌<◌}
use native.Mathlib.Omega.{arith}
use borrow.Author.Tests.{eq-eqb, ne_eqb, lt-ltb, le-ltb}
use lib.ListN.{get_or}
use Rattle.search.specs.Layers.{mark, need_read}

-- what the arrays say of a row before it is reached, then, and with more steps
module _ (reached firsts floors : List ℕ) (i a : ℕ) where
  pub read_before : i < get_or reached a 0 → need_read reached firsts floors i a ≡ mark
  read_before h = rw (lt-ltb i (get_or reached a 0) h)

  pub read_then : i ≡ get_or reached a 0 → need_read reached firsts floors i a ≡ get_or firsts a 0
  read_then e = rw (le-ltb i (get_or reached a 0) (omega arith), eq-eqb i (get_or reached a 0) e)

  pub read_after : get_or reached a 0 < i → need_read reached firsts floors i a ≡ get_or floors a 0
  read_after h = rw (le-ltb i (get_or reached a 0) (omega arith), ne_eqb i (get_or reached a 0) (λ e. omega arith))
