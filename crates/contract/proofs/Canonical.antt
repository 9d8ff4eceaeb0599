-- The writer's record of what a record says, said again: the canonical form. Assumes nothing.
use mathlib.Core.Path.{◌≡◌}
use mathlib.Core.List.{List}
use Prim.Native.Nat.{ℕ}
use Rattle.contract.specs.Res.{ok}
use Rattle.contract.specs.Contract.{Contract}
use Rattle.contract.specs.Parse.{parse}
use Rattle.contract.specs.Serialize.{serialize}
use Rattle.contract.proofs.RoundTrip.{round_trip}
use Rattle.contract.proofs.ParsedValid.{parsed_valid}

-- what parse accepts, serialize of it is accepted with the same contract
pub canonical : (s : List ℕ) (k : Contract) → parse s ≡ ok k → parse (serialize k) ≡ ok k
canonical s k e = round_trip k (parsed_valid s k e)
