-- The order bytes that are stored. Assumes nothing.
use mathlib.Core.Path.{◌≡◌}
use mathlib.Core.List.{List, ◌++◌}
use Prim.Native.Nat.{ℕ, ◌≤◌}
use lib.ListN.{length, drop}
use borrow.Author.Tests.{le-leb}
use Rattle.order.specs.Bytes.{stored_in}

-- eight order bytes are stored where there is room for them
pub stored_eight : (order bytes order' : List ℕ) → 8 ≤ length order → order' ≡ stored_in order bytes → order' ≡ bytes ++ drop 8 order
stored_eight order bytes order' h e = rw (le-leb _ _ h) at e
