-- What finding a ladder promises.
use Rattle.std.specs.Prelude.{◌≡◌, ◌⊎◌, false, List, [], ℕ, ◌+◌, ◌*◌, ◌≤◌, length, Result, Ok, Err}
use Rattle.area.specs.Entries.{column}
use Rattle.contract.specs.Res.{Res, refused, ok, bind}
use Rattle.contract.specs.Contract.{Contract, number_of}
use Rattle.contract.specs.Field.{Head, head_at}
use Rattle.contract.specs.Parse.{parse}
use Rattle.contract.specs.Segments.{segment_body}
use Rattle.contract.specs.Valid.{sum}
use Rattle.contract.specs.declared.Form.{Form}
use Rattle.contract.specs.declared.Refusal.{Refusal}
use Rattle.record.specs.declared.Ladder.{Ladder}
use Rattle.record.specs.declared.Found.{Found}

-- the contract of a ladder whose rises stand in the record
abbrev pub ladder_in : List ℕ → Ladder → Contract
ladder_in s l =
    record {
      price = l.price;
      supplier = l.supplier;
      buyer = l.buyer;
      form = Form.Ladder;
      units = [];
      costs = column 4 s l.first 8 l.count;
      values = column 4 s (l.first + 4) 8 l.count;
    }

-- a ladder that was found: the record says its contract, its rises reach to the record's end, and the totals are theirs
pub record LadderFound (s : List ℕ) (l : Ladder) : Type 0 where
  pub says : parse s ≡ ok (ladder_in s l)
  pub ends : l.first + l.count * 8 ≡ length s
  pub few : l.count ≤ 1000
  pub cost_is : l.cost ≡ sum (column 4 s l.first 8 l.count)
  pub value_is : l.value ≡ sum (column 4 s (l.first + 4) 8 l.count)

-- what finding reads: the head and, where it names a ladder, what follows it. The head, or the first refusal as far as that goes
abbrev pub sought_at : Form → List ℕ → Head → Res Head
sought_at Form.Ladder s h = bind (segment_body false s h) (λ k. ok h)
sought_at Form.UnitPrices s h = ok h
sought_at Form.Table s h = ok h

-- the same from the first byte on
unfoldable pub sought : List ℕ → Res Head
sought s = bind (head_at s) (λ h. sought_at h.form s h)

-- another form, which the head names
pub record HeadFound (f : Form) (s : List ℕ) : Type 0 where
  pub head : Head
  pub says : sought s ≡ ok head
  pub form_is : head.form ≡ f

-- one of the two other forms
abbrev pub OtherFound : List ℕ → Type 0
OtherFound s = HeadFound Form.UnitPrices s ⊎ HeadFound Form.Table s

-- the promise of finding a ladder: the refusal as far as it reads, a ladder, or which other form it is. No two answers keep it (`found_one`)
abbrev pub Finds : List ℕ → Result Found Refusal → Type 0
Finds s (Err e) = sought s ≡ refused (number_of e)
Finds s (Ok (Found.Ladder l)) = LadderFound s l
Finds s (Ok Found.UnitPrices) = HeadFound Form.UnitPrices s
Finds s (Ok Found.Table) = HeadFound Form.Table s
