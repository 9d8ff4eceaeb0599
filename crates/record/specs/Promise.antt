-- What reading and writing promise.
use Rattle.std.specs.Prelude.{◌≡◌, List, ◌++◌, ℕ, length, drop, Result, Ok, Err}
use Rattle.contract.specs.Res.{Res, refused, ok}
use Rattle.contract.specs.Contract.{Contract, number_of, header_of, contract_of}
use Rattle.contract.specs.Parse.{parse}
use Rattle.contract.specs.Serialize.{writing}
use Rattle.contract.specs.declared.Header.{Header}
use Rattle.contract.specs.declared.Refusal.{Refusal}

-- the number of a refusal, or the value as f sees it
abbrev pub view : {A B : Type 0} → (A → B) → Result A Refusal → Res B
view f (Err e) = refused (number_of e)
view f (Ok a) = ok (f a)

-- the number of a refusal, or the value
abbrev pub answer_of : {A : Type 0} → Result A Refusal → Res A
answer_of r = view (λ a. a) r

-- the answer for what a record says: its number, or the contract's header
abbrev pub answer_to : Res Contract → Res Header
answer_to (refused n) = refused n
answer_to (ok k) = ok (header_of k)

-- an area after its first entries, or bytes, were stored: what lies after the last stays; a refusal leaves all as it was
abbrev pub stored : {A : Type 0} → (A → List ℕ) → Res A → List ℕ → List ℕ
stored f (refused n) area = area
stored f (ok a) area = f a ++ drop (length (f a)) area

-- the reader's promise, where what the record says is `said`: the answer, and both areas
pub record Reads (said : Res Contract) (costs values : List ℕ) (r : Result Header Refusal) (costs' values' : List ℕ) : Type 0 where
  pub answer : answer_of r ≡ answer_to said
  pub costs_after : costs' ≡ stored (λ k. k.costs) said costs
  pub values_after : values' ≡ stored (λ k. k.values) said values

-- the length of a record
abbrev pub length_of : Res (List ℕ) → Res ℕ
length_of (refused n) = refused n
length_of (ok bs) = ok (length bs)

-- what is read back from a record that was written
abbrev pub ReadBack : Res (List ℕ) → Contract → Type 0
ReadBack (refused n) k = Unit {0}
ReadBack (ok bs) k = parse bs ≡ ok k

-- the writer's promise: the reply, every byte of the output area, and that the record reads back as the same contract
pub record Writes (h : Header) (costs values out : List ℕ) (r : Result ℕ Refusal) (out' : List ℕ) : Type 0 where
  pub answer : answer_of r ≡ length_of (writing h costs values (length out))
  pub bytes_after : out' ≡ stored (λ bs. bs) (writing h costs values (length out)) out
  pub read_back : ReadBack (writing h costs values (length out)) (contract_of h costs values)
