-- The deal of a valid contract rises, along every order. Assumes nothing.
use mathlib.Core.List.{List}
use Prim.Native.Nat.{ℕ}
use Rattle.contract.specs.Contract.{Contract}
use Rattle.contract.specs.Valid.{Valid}
use Rattle.contract.specs.declared.Form.{Form}
use Rattle.contract.specs.declared.Form.TheVariants.{Ladder, UnitPrices, Table}
use Rattle.exchange.specs.Work.{Rising}
use Rattle.exchange.specs.declared.Sides.{Sides}
use Rattle.exchange.proofs.FormLaws.{ladder_rising, order_rising, table_rising}
use Rattle.planning.specs.Deals.{sides_of, contract_with, deal_for, deal_of}
use Rattle.planning.proofs.TablePlan.{costs_rows, values_rows, cells_rise}

pub form_rising : (f : Form) (p : Sides) (us cs vs σ : List ℕ) → Valid (contract_with f p us cs vs) → Rising (deal_for f p us cs vs σ)
form_rising Ladder p us cs vs σ v = ladder_rising p cs vs
form_rising UnitPrices p us cs vs σ v = order_rising p cs vs σ
form_rising Table p us cs vs σ v =
    let up = cells_rise p us cs vs v in
    table_rising p us cs vs (costs_rows p us cs vs v) (values_rows p us cs vs v) up.costs_rise up.values_rise

pub contract_rising : (k : Contract) (σ : List ℕ) → Valid k → Rising (deal_of k σ)
contract_rising k σ v = form_rising k.form (sides_of k) k.units k.costs k.values σ v
