-- A contract whose header was read, with its costs and values at the front of two areas.
use Rattle.std.specs.Prelude.{◌≡◌, List, ℕ}
use Rattle.contract.specs.Contract.{header_of, contract_of}
use Rattle.contract.specs.Valid.{Valid}
use Rattle.contract.specs.declared.Header.{Header}

-- the contract is valid, and the header is its own: no count is above what stands
pub record Stands (h : Header) (costs values : List ℕ) : Type 0 where
  pub valid : Valid (contract_of h costs values)
  pub own_header : header_of (contract_of h costs values) ≡ h
