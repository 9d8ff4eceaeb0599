-- The end of a contract's deal: no other place holds the units of the last one, and the end is safe. Assumes nothing.
use mathlib.Core.Path.{◌≡◌, sym}
use mathlib.Core.Bool.{Bool}
use mathlib.Core.List.{List, [], ◌∷◌, foldr}
use Prim.Native.Nat.{ℕ, ◌+◌, ◌-◌, ◌/◌, ◌≤◌, ◌<◌}
use native.Mathlib.Decide.{ℕ_discrete}
use native.Mathlib.Nat.{le_refl, mod-lt}
use native.Mathlib.Omega.{arith}
use lib.Dec.{T, leb, leb→le}
use lib.ListN.{length}
use Rattle.grid.specs.Rows.{rows_of}
use Rattle.grid.proofs.RowLaws.{rows_pos}
use Rattle.contract.specs.Contract.{Contract}
use Rattle.contract.specs.declared.Form.{Form}
use Rattle.contract.specs.declared.Form.TheVariants.{Ladder, UnitPrices, Table}
use Rattle.exchange.specs.Bounds.{Terms}
use Rattle.exchange.specs.Deal as deal
use Rattle.exchange.specs.Forms.{ladder_terms, order_terms, table_terms, holds_row}
use Rattle.exchange.specs.declared.Sides.{Sides}
use Rattle.exchange.proofs.BoundLaws.{end_safe}
use Rattle.exchange.proofs.TablePlan.RowUnits.{units_of, units_rise, units_last}
use Rattle.planning.specs.Deals.{sides_of, deal_for, deal_of}
use Rattle.session.specs.Reached.{Ending}

-- no other place holds the units of the last one
abbrev Top : ℕ → (ℕ → ℕ → Bool) → Type 0
Top last holds = (b : ℕ) → b ≤ last → T (holds last b) → b ≡ last

terms_ending : (t : Terms) (holds : ℕ → ℕ → Bool) → Top t.last holds → Ending (deal.deal_of t holds)
terms_ending t holds top = record { top = top; end_safe = end_safe t holds }

-- along an order a later place holds the units of the earlier ones alone
line_top : (n : ℕ) → Top n leb
line_top n b h t = let l : n ≤ b = leb→le n b t in omega arith

-- no row has more units than there are
units_within : (us : List ℕ) (a : ℕ) → units_of us a ≤ foldr ◌+◌ 0 us
unfolding units_of
units_within [] a = le_refl 0
units_within (u ∷ us) a = let pos : 0 < u + 1 = omega arith in omega (arith, mod-lt (a / rows_of us) pos, units_within us a)

-- the last row has all units, so a row that holds them has no more and is the same
table_top : (us : List ℕ) → Top (rows_of us - 1) (holds_row us)
table_top us b h t = go (ℕ_discrete (rows_of us - 1) b)
  where
    go : Dec (rows_of us - 1 ≡ b) → b ≡ rows_of us - 1
    go (yes e) = sym e
    go (no n) =
        let p = rows_pos us in
        let m = units_rise us (rows_of us - 1) b (omega arith) (omega arith) t n in
        absurd (omega (arith, m, units_last us, units_within us b))

form_ending : (p : Sides) (f : Form) (units costs values σ : List ℕ) → Ending (deal_for f p units costs values σ)
form_ending p Ladder units costs values σ = terms_ending (ladder_terms p costs values) leb (line_top (length costs))
form_ending p UnitPrices units costs values σ = terms_ending (order_terms p costs values σ) leb (line_top (length σ))
form_ending p Table units costs values σ =
    terms_ending (table_terms p units costs values) (holds_row units) (table_top units)

-- every deal of a contract ends so
pub contract_ending : (k : Contract) (σ : List ℕ) → Ending (deal_of k σ)
contract_ending k σ = form_ending (sides_of k) k.form k.units k.costs k.values σ
