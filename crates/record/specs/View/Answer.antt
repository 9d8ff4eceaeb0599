-- What the steps of the reader give.
use Rattle.std.specs.Prelude.{◌≡◌, List, ℕ, Result, IfOk}
use Rattle.contract.specs.Res.{Res}
use Rattle.contract.specs.Field.{Head}
use Rattle.contract.specs.declared.Header.{Header}
use Rattle.contract.specs.declared.Refusal.{Refusal}
use Rattle.record.specs.Promise.{view}

-- a step's answer, as f sees its value, and what is known of the value
pub record Gives {A B : Type 0} (f : A → B) (answer : Res B) (P : A → Type 0) (r : Result A Refusal) : Type 0 where
  pub meets : view f r ≡ answer
  pub known : IfOk r P

-- the header of a contract with this head, count and units
abbrev pub header_with : Head → ℕ → List ℕ → Header
header_with h n us = record { price = h.price; supplier = h.supplier; buyer = h.buyer; form = h.form; count = n; units = us }
