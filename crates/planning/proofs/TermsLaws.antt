-- The terms of a contract that was read, by its form. Assumes nothing.
use mathlib.Core.Path.{◌≡◌, refl, subst}
use mathlib.Core.List.{List}
use Prim.Native.Nat.{ℕ, ◌-◌, ◌≤◌}
use lib.ListN.{length, take}
use Rattle.grid.specs.Rows.{rows_of}
use Rattle.contract.specs.Contract.{contract_of}
use Rattle.contract.specs.Valid.{Valid, sum}
use Rattle.contract.specs.declared.Header.{Header}
use Rattle.contract.specs.declared.Form.{Form}
use Rattle.contract.specs.declared.Form.TheVariants.{UnitPrices, Table}
use Rattle.exchange.specs.declared.Sides.{Sides}
use Rattle.exchange.specs.Forms.{table}
use Rattle.order.specs.Bytes.{names_each}
use Rattle.planning.specs.Deals.{contract_with, last_place}
use Rattle.planning.specs.Order.{names_order, deal_by}
use Rattle.planning.proofs.TablePlan.{few_rows}
use Rattle.planning.specs.Stands.{Stands}
use Rattle.planning.specs.Terms.{contract_in}
use Rattle.planning.specs.declared.terms.Terms.{Terms}

-- a table that was read has few rows
pub rows_few : (h : Header) (cs vs : List ℕ) → Stands h cs vs → h.form ≡ Table → rows_of (take h.count h.units) ≤ 128
rows_few h cs vs s e =
    let us = take h.count h.units in
    let p : Sides = record { price = h.price; supplier = h.supplier; buyer = h.buyer } in
    let is : contract_of h cs vs ≡ contract_with Table p us (take (rows_of us) cs) (take (rows_of us) vs) = rw e refl in
    few_rows p us _ _ (subst Valid is s.valid)

-- terms of a form
module _ {f : Form} (t : Terms) (e : t.form ≡ f) where
  pub contract_as : contract_in t ≡ contract_with f t.sides t.units.now t.costs.now t.values.now
  contract_as = rw e refl

  pub valid_as : Valid (contract_with f t.sides t.units.now t.costs.now t.values.now)
  valid_as = rw e at t.valid

-- unit prices: their last place, and the items that bytes name
module _ (t : Terms) (e : t.form ≡ UnitPrices) where
  pub prices_last : last_place (contract_in t) ≡ sum t.units.now
  prices_last = rw e refl

  pub prices_named : (order : List ℕ) → names_order (contract_in t) order ≡ names_each (length t.units.now) order
  prices_named order = rw e refl

-- a table: its last row, and no items to name
module _ (t : Terms) (e : t.form ≡ Table) where
  pub table_last : last_place (contract_in t) ≡ rows_of t.units.now - 1
  table_last = rw e refl

  pub table_named : (order : List ℕ) → names_order (contract_in t) order ≡ names_each 0 order
  table_named order = rw e refl

  pub table_deal : (order : List ℕ) → deal_by (contract_in t) order ≡ table t.sides t.units.now t.costs.now t.values.now
  table_deal order = rw e refl
