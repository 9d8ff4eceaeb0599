-- Order bytes: the order in which the items of unit prices are delivered, each with all its units together.
use Rattle.std.specs.Prelude.{Bool, List, ℕ, length}
use Rattle.contract.specs.Contract.{Contract}
use Rattle.contract.specs.declared.Form.{Form}
use Rattle.contract.specs.declared.Form.TheVariants.{Ladder, UnitPrices, Table}
use Rattle.exchange.specs.Deal.{Deal}
use Rattle.exchange.specs.Chosen.{together, IsChosen}
use Rattle.exchange.specs.declared.Sides.{Sides}
use Rattle.order.specs.Bytes.{names_each, items_in}
use Rattle.planning.specs.Deals.{sides_of, deal_of}

-- how many items the bytes name: those of unit prices, else none
abbrev pub items_named : Form → List ℕ → ℕ
items_named Ladder units = 0
items_named UnitPrices units = length units
items_named Table units = 0

-- "each item once and then zeros (all zero except for unit prices)": whether the bytes name an order of a contract's items
abbrev pub names_order : Contract → List ℕ → Bool
names_order k bytes = names_each (items_named k.form k.units) bytes

-- the items that the bytes name, counted from 0
abbrev pub items_by : Contract → List ℕ → List ℕ
items_by k bytes = items_in (items_named k.form k.units) bytes

-- "all units of the first item in the returned order bytes, then all of the second, and so on"
unfoldable pub order_in : Contract → List ℕ → List ℕ
order_in k bytes = together k.units (items_by k bytes)

-- the deal of a contract along the order that the bytes name
abbrev pub deal_by : Contract → List ℕ → Deal
deal_by k bytes = deal_of k (order_in k bytes)

-- W2: the items of unit prices are in the chosen order; a ladder and a table have no order to choose
abbrev pub ChosenFor : Form → Sides → List ℕ → List ℕ → List ℕ → List ℕ → Type 0
ChosenFor Ladder p units costs values items = Unit {0}
ChosenFor UnitPrices p units costs values items = IsChosen p units costs values items
ChosenFor Table p units costs values items = Unit {0}

-- the bytes name the chosen order
abbrev pub NamesChosen : Contract → List ℕ → Type 0
NamesChosen k bytes = ChosenFor k.form (sides_of k) k.units k.costs k.values (items_by k bytes)
