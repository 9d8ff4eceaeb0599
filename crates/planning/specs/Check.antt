-- What checking a brought plan promises.
use Rattle.std.specs.Prelude.{◌≡◌, Bool, true, ◌&&◌, List, ℕ, leb, length}
use Rattle.area.specs.Entries.{entries}
use Rattle.contract.specs.Res.{Res, refused, ok, bind, test}
use Rattle.contract.specs.Contract.{Contract}
use Rattle.contract.specs.Parse.{parse}
use Rattle.exchange.specs.Deal.{State, Plan}
use Rattle.planning.specs.Order.{names_order, deal_by}

-- whether both areas have `count` entries: "A count above either area gets 8"
unfoldable pub holds_count : ℕ → List ℕ → List ℕ → Bool
holds_count count places sums = leb count (length (entries 2 places)) && leb count (length (entries 4 sums))

-- a contract, or 8 where an area is too short for the brought plan
abbrev pub brought_to : Contract → ℕ → List ℕ → List ℕ → List ℕ → Res Contract
brought_to k count places sums order = test 8 (holds_count count places sums) (test 8 (leb 8 (length order)) (ok k))

-- the refusal that stands ahead of 12, or the contract: those of the record, then 8
unfoldable pub ahead_of_check : List ℕ → ℕ → List ℕ → List ℕ → List ℕ → Res Contract
ahead_of_check bytes count places sums order = bind (parse bytes) (λ k. brought_to k count places sums order)

-- the bytes name an order of the contract, and the states are a plan along it
pub record SafeAlong (k : Contract) (order : List ℕ) (xs : List State) : Type 0 where
  pub named : names_order k order ≡ true
  pub plan : Plan (deal_by k order) xs

-- the promise of checking, by the contract or the refusal ahead of 12, and by the answer: a plan is accepted exactly if it is a plan of the
-- deal along the order that its bytes name, else it gets 12
abbrev pub Checks : Res Contract → Res (Unit {0}) → List ℕ → List State → Type 0
Checks (refused e) answer order xs = answer ≡ refused e
Checks (ok k) (refused e) order xs = (e ≡ 12) × (SafeAlong k order xs → ⊥)
Checks (ok k) (ok u) order xs = SafeAlong k order xs
