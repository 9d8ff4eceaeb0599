-- What the answer of the reader says of the record, where both areas have room for all that it says. Assumes nothing.
use mathlib.Core.Path.{◌≡◌, refl, sym, ap, ◌∙◌, subst}
use mathlib.Core.List.{List}
use Prim.Native.Nat.{ℕ, ◌≤◌, ◌<◌}
use native.Mathlib.Omega.{arith}
use lib.ListN.{length}
use Rattle.std.proofs.Common.{Result, Ok, Err}
use Rattle.contract.specs.Res.{Res, refused, ok}
use Rattle.contract.specs.Contract.{Contract, number_of, header_of, contract_of}
use Rattle.contract.specs.Parse.{parse, reading}
use Rattle.contract.specs.Valid.{Valid}
use Rattle.contract.specs.declared.Header.{Header}
use Rattle.contract.specs.declared.Refusal.{Refusal}
use Rattle.contract.specs.declared.Refusal.TheVariants.{Truncated, Map, Value, Limit, Range, Falling, Trailing, Short}
use Rattle.contract.proofs.FromHeader.{from_header}
use Rattle.contract.proofs.ParsedValid.{parsed_valid}
use Rattle.contract.proofs.ParsedValid.ResLaws.{ok_inv, refused_inv, never}
use Rattle.record.specs.Promise.{Reads}
use Rattle.planning.specs.Stands.{Stands}

-- the refusals of a contract have the numbers 1 to 8
pub number_range : (e : Refusal) → (0 < number_of e) × (number_of e ≤ 8)
number_range Truncated = (omega arith, omega arith)
number_range Map = (omega arith, omega arith)
number_range Value = (omega arith, omega arith)
number_range Limit = (omega arith, omega arith)
number_range Range = (omega arith, omega arith)
number_range Falling = (omega arith, omega arith)
number_range Trailing = (omega arith, omega arith)
number_range Short = (omega arith, omega arith)

module _ (bytes costs values : List ℕ) (whole : reading bytes (length costs) (length values) ≡ parse bytes) {costs' values' : List ℕ} where
  -- what the record says is what was read
  said : {r : Result Header Refusal} → Reads (reading bytes (length costs) (length values)) costs values r costs' values' → Reads (parse bytes) costs values r costs' values'
  said {r} h = subst (λ (x : Res Contract). Reads x costs values r costs' values') whole h

  -- a refusal is the record's
  pub read_refused : {e : Refusal} → Reads (reading bytes (length costs) (length values)) costs values (Err e) costs' values' → parse bytes ≡ refused (number_of e)
  read_refused {e} h = go (parse bytes) (said h)
    where
      go : (x : Res Contract) → Reads x costs values (Err e) costs' values' → x ≡ refused (number_of e)
      go (refused n) g = ap refused (refused_inv (sym g.answer))
      go (ok k) g = never {n = number_of e} {a = header_of k} g.answer

  contract_is : {h : Header} (k : Contract) → Valid k → Reads (ok k) costs values (Ok h) costs' values' → contract_of h costs' values' ≡ k
  contract_is k v g = rw (ok_inv g.answer, g.costs_after, g.values_after) (from_header k _ _ v)

  -- a record that was read says the contract of the header and of the areas
  pub read_accepted : {h : Header} → Reads (reading bytes (length costs) (length values)) costs values (Ok h) costs' values'
      → parse bytes ≡ ok (contract_of h costs' values')
  read_accepted {h} r = go (parse bytes) refl (said r)
    where
      go : (x : Res Contract) → parse bytes ≡ x → Reads x costs values (Ok h) costs' values' → x ≡ ok (contract_of h costs' values')
      go (refused n) e g = never {n = n} {a = h} (sym g.answer)
      go (ok k) e g = ap ok (sym (contract_is k (parsed_valid bytes k e) g))

  -- and that contract is valid, and the header is its own
  pub read_stands : {h : Header} → Reads (reading bytes (length costs) (length values)) costs values (Ok h) costs' values' → Stands h costs' values'
  read_stands {h} r = go (parse bytes) refl (said r)
    where
      go : (x : Res Contract) → parse bytes ≡ x → Reads x costs values (Ok h) costs' values' → Stands h costs' values'
      go (refused n) e g = never {n = n} {a = h} (sym g.answer)
      go (ok k) e g =
          let v : Valid k = parsed_valid bytes k e in
          let f : contract_of h costs' values' ≡ k = contract_is k v g in
          record { valid = rw f v; own_header = ap header_of f ∙ sym (ok_inv g.answer) }
