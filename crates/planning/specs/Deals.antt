-- The deals of a contract, one for each order of its units.
use Rattle.std.specs.Prelude.{◌≡◌, List, [], ℕ, ◌-◌, length}
use Rattle.grid.specs.Rows.{rows_of}
use Rattle.contract.specs.Contract.{Contract}
use Rattle.contract.specs.Valid.{sum}
use Rattle.contract.specs.declared.Form.{Form}
use Rattle.contract.specs.declared.Form.TheVariants.{Ladder, UnitPrices, Table}
use Rattle.exchange.specs.Deal.{Deal, State, Plan}
use Rattle.exchange.specs.declared.Sides.{Sides}
use Rattle.exchange.specs.Forms.{ladder, in_order, Order, table}

-- P and the defection costs of a contract
abbrev pub sides_of : Contract → Sides
sides_of k = record { price = k.price; supplier = k.supplier; buyer = k.buyer }

-- the contract of a form with these sides and lists
abbrev pub contract_with : Form → Sides → List ℕ → List ℕ → List ℕ → Contract
contract_with f p units costs values =
    record { price = p.price; supplier = p.supplier; buyer = p.buyer; form = f; units = units; costs = costs; values = values }

-- U, all units, by the units of the items, or of a ladder by its costs
abbrev pub all_units : Form → List ℕ → List ℕ → ℕ
all_units Ladder units costs = length costs
all_units UnitPrices units costs = sum units
all_units Table units costs = sum units

-- U of a contract
abbrev pub unit_count : Contract → ℕ
unit_count k = all_units k.form k.units k.costs

-- L, the last place, of each form
abbrev pub last_for : Form → List ℕ → List ℕ → ℕ
last_for Ladder units costs = length costs
last_for UnitPrices units costs = sum units
last_for Table units costs = rows_of units - 1

-- L of a contract
abbrev pub last_place : Contract → ℕ
last_place k = last_for k.form k.units k.costs

-- the orders of each form, with items counted from 0: "A ladder has its own order only. For unit prices every order of the units counts,
-- those of one item together or not .. In a table places are rows"; the empty list stands where there is no order to name
abbrev pub OrderFor : Form → List ℕ → List ℕ → Type 0
OrderFor Ladder units σ = σ ≡ []
OrderFor UnitPrices units σ = Order units σ
OrderFor Table units σ = σ ≡ []

-- an order of a contract's units
abbrev pub OrderOf : Contract → List ℕ → Type 0
OrderOf k σ = OrderFor k.form k.units σ

-- the deal of each form along an order
abbrev pub deal_for : Form → Sides → List ℕ → List ℕ → List ℕ → List ℕ → Deal
deal_for Ladder p units costs values σ = ladder p costs values
deal_for UnitPrices p units costs values σ = in_order p costs values σ
deal_for Table p units costs values σ = table p units costs values

-- the deal of a contract along an order
abbrev pub deal_of : Contract → List ℕ → Deal
deal_of k σ = deal_for k.form (sides_of k) k.units k.costs k.values σ

-- "no rival plan exists in any of these orders"
abbrev pub NoPlan : Contract → Type 0
NoPlan k = (σ : List ℕ) → OrderOf k σ → (xs : List State) → Plan (deal_of k σ) xs → ⊥
