-- A ladder and unit prices: segments, each a run of units with one cost and one value. A ladder's has one unit, which it does not state.
use Rattle.std.specs.Prelude.{Bool, true, false, cond, List, [], ℕ, zero, suc, ◌+◌, leb, eqb, length}
use Rattle.area.specs.Entries.{column}
use Rattle.contract.specs.Res.{Res, ok, bind, test}
use Rattle.contract.specs.Contract.{Contract}
use Rattle.contract.specs.Field.{At, ranged, amount, Head}

-- running totals, and the index reached
pub record Sums : Type 0 where
  pub at : ℕ
  pub units : ℕ
  pub cost : ℕ
  pub value : ℕ

-- no totals yet, at index i
abbrev pub from : ℕ → Sums
from i = record { at = i; units = 0; cost = 0; value = 0 }

-- the cost and the value of each of n units
unfoldable pub cost_value : List ℕ → Sums → ℕ → Res Sums
cost_value s c n =
    bind (amount s n c.cost c.at) (λ a.
    bind (amount s n c.value a.next) (λ b.
    ok (record { at = b.next; units = c.units; cost = a.value; value = b.value })))

-- a unit of a ladder (false), or an item with unit prices (true), "all units together at most 1,000"
unfoldable pub segment : Bool → List ℕ → Sums → Res Sums
segment false s c = cost_value s c 1
segment true s c =
    bind (ranged 1 255 s c.at) (λ a.
    test 5 (leb (c.units + a.value) 1000) (
    cost_value s (record { at = a.next; units = c.units + a.value; cost = c.cost; value = c.value }) a.value))

-- n segments, one after the other
unfoldable pub segments : Bool → List ℕ → ℕ → Sums → Res Sums
segments p s zero c = ok c
segments p s (suc n) c = bind (segment p s c) (λ d. segments p s n d)

-- how many segments: U in two bytes, 1 to 1,000, or the item count in one byte, 1 to 8
unfoldable pub segment_count : Bool → List ℕ → ℕ → Res At
segment_count false s i = ranged 2 1000 s i
segment_count true s i = ranged 1 8 s i

-- the bytes of a segment
abbrev pub size : Bool → ℕ
size p = cond p 9 8

-- where in a segment its cost begins
abbrev pub skip : Bool → ℕ
skip p = cond p 1 0

-- the contract of n segments from index i on
unfoldable pub segment_contract : Bool → List ℕ → Head → ℕ → ℕ → Contract
segment_contract p s h n i =
    record {
      price = h.price;
      supplier = h.supplier;
      buyer = h.buyer;
      form = h.form;
      units = cond p (column 1 s i 9 n) [];
      costs = column 4 s (i + skip p) (size p) n;
      values = column 4 s (i + skip p + 4) (size p) n;
    }

-- what follows the head of a ladder or of unit prices; 7: bytes after the last field
unfoldable pub segment_body : Bool → List ℕ → Head → Res Contract
segment_body p s h =
    bind (segment_count p s h.next) (λ n.
    bind (segments p s n.value (from n.next)) (λ c.
    test 7 (eqb c.at (length s)) (
    ok (segment_contract p s h n.value n.next))))
