-- W2: "Both results are then free no longer". For every record and areas exactly one answer and one content of every area keep the promise.
use Rattle.std.specs.Prelude.{◌≡◌, List, ℕ}
use Rattle.area.specs.Entries.{Bytes}
use Rattle.contract.specs.Res.{Res}
use Rattle.contract.specs.Contract.{Contract}
use Rattle.exchange.specs.declared.Objective.{Objective}
use Rattle.planning.specs.Areas.{Areas}
use Rattle.planning.specs.Promise.{ahead, ahead_along, PlansFor}

-- the areas hold bytes
pub record ByteAreas (a : Areas) : Type 0 where
  pub places : Bytes a.places
  pub sums : Bytes a.sums
  pub order : Bytes a.order
  pub work : Bytes a.work

-- an answer, and the areas after it
pub record Outcome : Type 0 where
  pub answer : Res ℕ
  pub areas : Areas

-- an outcome that keeps the promise of planning for an objective
pub record Keeps (aim : Objective) (ahead : Res Contract) (before : Areas) (o : Outcome) : Type 0 where
  pub bytes : ByteAreas o.areas
  pub plans : PlansFor aim ahead o.answer before o.areas

-- there is one, and no other
pub record ExactlyOne (Kept : Outcome → Type 0) : Type 0 where
  pub one : Outcome
  pub kept : Kept one
  pub only : (o : Outcome) → Kept o → o ≡ one

-- planning
abbrev pub OneAnswer : Type 0
OneAnswer = (bytes : List ℕ) (before : Areas) → ByteAreas before → ExactlyOne (Keeps Objective.Steps (ahead bytes before) before)

-- W1: planning along an order, for each objective
abbrev pub OneAnswerFor : Objective → Type 0
OneAnswerFor aim = (bytes : List ℕ) (before : Areas) → ByteAreas before → ExactlyOne (Keeps aim (ahead_along bytes before) before)
