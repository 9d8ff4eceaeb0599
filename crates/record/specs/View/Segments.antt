-- What the code's segments stand for.
use Rattle.std.specs.Prelude.{◌≡◌, Bool, cond, List, ◌++◌, ℕ, zero, suc, ◌+◌, ◌-◌, ◌*◌, ◌≤◌, eqb, length, replicate, Result}
use Rattle.area.specs.Entries.{num, column}
use Rattle.contract.specs.Res.{Res, ok, bind, test}
use Rattle.contract.specs.Contract.{limit}
use Rattle.contract.specs.Segments.{Sums, from, segments, segment_count, size}
use Rattle.contract.specs.declared.Form.{Form}
use Rattle.contract.specs.declared.Form.TheVariants.{Ladder, UnitPrices}
use Rattle.contract.specs.declared.Refusal.{Refusal}
use Rattle.record.specs.View.Answer.{Gives}
use Rattle.record.specs.declared.segments.Cursor.{Cursor}
use Rattle.record.specs.declared.segments.Run.{Run}

-- the form of segments that do not state their units, or do
abbrev pub segment_form : Bool → Form
segment_form p = cond p UnitPrices Ladder

-- the totals that the code's cursor holds
abbrev pub sums : Cursor → Sums
sums c = record { at = c.at; units = c.units; cost = c.cost; value = c.value }

-- running totals are within their limits
pub record Kept (c : Sums) : Type 0 where
  pub units : c.units ≤ 1000
  pub cost : c.cost ≤ limit
  pub value : c.value ≤ limit

-- the totals reached are within their limits, and the index is e, within the record
pub record Reached (s : List ℕ) (e : ℕ) (c : Sums) : Type 0 where
  pub at : c.at ≡ e
  pub within : c.at ≤ length s
  pub kept : Kept c

-- what reading segments gives
abbrev pub Steps : List ℕ → ℕ → Res Sums → Result Cursor Refusal → Type 0
Steps s e answer r = Gives sums answer (λ c. Reached s e (sums c)) r

-- n units of a ladder lie within the record, after totals within their limits
pub record Whole (s : List ℕ) (n : ℕ) (c : Sums) : Type 0 where
  pub few : n ≤ 1000
  pub within : c.at + n * 8 ≤ length s
  pub kept : Kept c

-- the totals after n units of a ladder, whatever the limits
unfoldable pub lifted : List ℕ → ℕ → Sums → Sums
lifted s zero c = c
lifted s (suc n) c = lifted s n (record { at = c.at + 8; units = c.units; cost = c.cost + num 4 s c.at; value = c.value + num 4 s (c.at + 4) })

-- the most segments
abbrev pub most : Bool → ℕ
most p = cond p 8 1000

-- the bytes of the count of segments
abbrev pub wide : Bool → ℕ
wide p = cond p 1 2

-- how many segments, where the first begins, and the totals of cost and value
pub record Found : Type 0 where
  pub count : ℕ
  pub first : ℕ
  pub cost : ℕ
  pub value : ℕ

-- the segments from index i to the record's end
unfoldable pub found : Bool → List ℕ → ℕ → Res Found
found p s i =
    bind (segment_count p s i) (λ n.
    bind (segments p s n.value (from n.next)) (λ c.
    test 7 (eqb c.at (length s)) (
    ok (record { count = n.value; first = n.next; cost = c.cost; value = c.value }))))

-- the segments that the code's struct holds
abbrev pub run_of : Run → Found
run_of r = record { count = r.count; first = r.first; cost = r.cost; value = r.value }

-- segments that reach to the record's end, with totals within the limit
pub record ToEnd (p : Bool) (s : List ℕ) (r : Found) : Type 0 where
  pub ends : r.first + r.count * size p ≡ length s
  pub few : r.count ≤ most p
  pub cost : r.cost ≤ limit
  pub value : r.value ≤ limit

-- what finding the segments gives
abbrev pub Runs : Bool → List ℕ → ℕ → Result Run Refusal → Type 0
Runs p s i r = Gives run_of (found p s i) (λ run. ToEnd p s (run_of run)) r

-- the units of each item, then zeros; a ladder has none
abbrev pub padded_units : Bool → List ℕ → ℕ → ℕ → List ℕ
padded_units p s i n = cond p (column 1 s i 9 n ++ replicate (8 - n) 0) (replicate 8 0)
