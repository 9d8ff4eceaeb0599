-- The deals of the three forms of contract: along an order of units, and over the rows of a table.
use Rattle.std.specs.Prelude.{◌≡◌, Bool, true, cond, ◌&&◌, List, [], ◌∷◌, ℕ, zero, suc, ◌+◌, ◌-◌, ◌/◌, ◌%◌, leb, eqb, length, get_or}
use Rattle.grid.specs.Rows.{rows_of}
use Rattle.exchange.specs.Bounds.{Terms}
use Rattle.exchange.specs.Deal.{Deal, deal_of}
use Rattle.exchange.specs.declared.Sides.{Sides}

-- the sum of f over the first k units of an order
unfoldable pub along : (ℕ → ℕ) → List ℕ → ℕ → ℕ
along f [] k = 0
along f (j ∷ σ) zero = 0
along f (j ∷ σ) (suc k) = f j + along f σ k

-- the amounts of a deal, by its last place and the cost and the value of each place
abbrev pub terms_of : Sides → ℕ → (ℕ → ℕ) → (ℕ → ℕ) → Terms
terms_of p last cost value = record { price = p.price; supplier = p.supplier; buyer = p.buyer; last = last; cost = cost; value = value }

-- the amounts of a ladder, by the rise of cost and the rise of value of each unit
abbrev pub ladder_terms : Sides → List ℕ → List ℕ → Terms
ladder_terms p costs values = terms_of p (length costs) (along (λ c. c) costs) (along (λ v. v) values)

-- "An order names each unit by its item; places count along it, and the cost and value of a place are the sums over its units";
-- items are counted from 0, with the cost and the value of a unit of each
abbrev pub order_terms : Sides → List ℕ → List ℕ → List ℕ → Terms
order_terms p costs values σ = terms_of p (length σ) (along (λ j. get_or costs j 0) σ) (along (λ j. get_or values j 0) σ)

-- the amounts of a table, by the units of each item and the cost and the value of each row
abbrev pub table_terms : Sides → List ℕ → List ℕ → List ℕ → Terms
table_terms p units costs values = terms_of p (rows_of units - 1) (λ r. get_or costs r 0) (λ r. get_or values r 0)

-- a deal along one order: places count units, and a later place holds the units of every earlier one
abbrev pub line : Terms → Deal
line t = deal_of t leb

-- a ladder: "A ladder has its own order only"
abbrev pub ladder : Sides → List ℕ → List ℕ → Deal
ladder p costs values = line (ladder_terms p costs values)

-- unit prices along an order
abbrev pub in_order : Sides → List ℕ → List ℕ → List ℕ → Deal
in_order p costs values σ = line (order_terms p costs values σ)

-- how often an item stands in an order
unfoldable pub occurs : ℕ → List ℕ → ℕ
occurs j [] = 0
occurs j (i ∷ σ) = cond (eqb i j) 1 0 + occurs j σ

-- an order of the units: every item as often as it has units, those of one item together or not
abbrev pub Order : List ℕ → List ℕ → Type 0
Order units σ = (j : ℕ) → occurs j σ ≡ get_or units j 0

-- whether row b holds at least the units of row a of every item, the last item running fastest
unfoldable pub holds_row : List ℕ → ℕ → ℕ → Bool
holds_row [] a b = true
holds_row (u ∷ us) a b = leb (a / rows_of us % (u + 1)) (b / rows_of us % (u + 1)) && holds_row us a b

-- a table, by the units of each item and the cost and the value of each row
abbrev pub table : Sides → List ℕ → List ℕ → List ℕ → Deal
table p units costs values = deal_of (table_terms p units costs values) (holds_row units)
