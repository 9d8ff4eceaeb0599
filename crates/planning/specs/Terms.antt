-- The contract that was read, by its terms.
use Rattle.contract.specs.Contract.{Contract}
use Rattle.planning.specs.Deals.{contract_with}
use Rattle.planning.specs.declared.terms.Terms.{Terms}

-- the contract of these terms
abbrev pub contract_in : Terms → Contract
contract_in t = contract_with t.form t.sides t.units.now t.costs.now t.values.now
