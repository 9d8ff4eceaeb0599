-- Laws of the reader's answers. Assumes nothing.
use mathlib.Core.Path.{◌≡◌, ap}
use mathlib.Core.List.{List, ◌++◌}
use Prim.Native.Nat.{ℕ}
use lib.ListN.{length, drop}
use Rattle.std.proofs.Common.{Result, Ok, Err}
use Rattle.std.specs.Result.{IsErrAnd}
use Rattle.std.proofs.lemmas.Result.{err_from_is_err_and}
use Rattle.contract.specs.Res.{Res, refused, ok}
use Rattle.contract.specs.Contract.{Contract, number_of, header_of}
use Rattle.contract.specs.Field.{Head, head_at}
use Rattle.contract.specs.Parse.{parse, body_at, sized}
use Rattle.contract.specs.declared.Form.{Form}
use Rattle.contract.specs.declared.Refusal.{Refusal}
use Rattle.contract.specs.declared.Header.{Header}
use Rattle.record.specs.Promise.{Reads}

-- a refusal is answered by its number, and leaves both areas as they were
pub refuses : {said : Res Contract} (cs vs : List ℕ) (e : Refusal) → said ≡ refused (number_of e) → Reads said cs vs (Err e) cs vs
refuses cs vs e h = record { answer = rw h; costs_after = rw h; values_after = rw h }

-- at the exit of a `?`
pub refuses_on : {said : Res Contract} {r : Result Header Refusal} (cs vs : List ℕ) (e : Refusal) → said ≡ refused (number_of e) → IsErrAnd r (λ d. d ≡ e)
    → Reads said cs vs r cs vs
refuses_on {r = r} cs vs e h q = let p = err_from_is_err_and r q in rw (p.1, p.2) (refuses cs vs e h)

-- a contract is answered by its header, and fills both areas
pub accepts : {said : Res Contract} {h : Header} (k : Contract) (cs vs : List ℕ) {cs' vs' : List ℕ} → said ≡ ok k → h ≡ header_of k
    → cs' ≡ k.costs ++ drop (length k.costs) cs → vs' ≡ k.values ++ drop (length k.values) vs
    → Reads said cs vs (Ok h) cs' vs'
accepts k cs vs e q a b = record { answer = rw (e, q); costs_after = rw e a; values_after = rw e b }

-- a record that is refused is so whatever the areas
pub sized_stop : {r : Res Contract} {n : ℕ} (a b : ℕ) → r ≡ refused n → sized r a b ≡ refused n
unfolding sized
sized_stop a b e = rw e

-- a record whose head is read goes on by its form
pub parse_form : (s : List ℕ) (h : Head) (f : Form) → head_at s ≡ ok h → h.form ≡ f → parse s ≡ body_at f s h
unfolding parse
parse_form s h f e q = rw e (ap (λ (g : Form). body_at g s h) q)
