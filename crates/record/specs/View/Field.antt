-- What the code's fields stand for.
use Rattle.std.specs.Prelude.{◌≡◌, List, ℕ, ◌+◌, ◌≤◌, leb, ltb, length, Result}
use Rattle.contract.specs.Res.{Res, ok, test}
use Rattle.contract.specs.Contract.{limit}
use Rattle.contract.specs.Field.{At, field, ranged}
use Rattle.contract.specs.declared.Refusal.{Refusal}
use Rattle.record.specs.View.Answer.{Gives}

-- a number and the index after it
abbrev pub at_of : ℕ × ℕ → At
at_of p = record { value = p.0; next = p.1 }

-- a field that was read ends w bytes on, within the record
abbrev pub Moved : ℕ → List ℕ → ℕ → ℕ × ℕ → Type 0
Moved w s i p = (p.1 ≡ i + w) × (p.1 ≤ length s)

-- a field of w bytes at index i, whose number f gives
abbrev pub FieldAs : {T : Type 0} → (T → ℕ) → ℕ → List ℕ → ℕ → Result (T × ℕ) Refusal → Type 0
FieldAs f w s i r = Gives (λ p. at_of (f p.0, p.1)) (field w s i) (λ p. Moved w s i (f p.0, p.1)) r

abbrev pub FieldRead : ℕ → List ℕ → ℕ → Result (ℕ × ℕ) Refusal → Type 0
FieldRead w s i r = FieldAs (λ v. v) w s i r

-- a number held to 1 .. most
abbrev pub between : ℕ → ℕ → Res ℕ
between n most = test 5 (ltb 0 n) (test 5 (leb n most) (ok n))

abbrev pub InRange : ℕ → ℕ → Result ℕ Refusal → Type 0
InRange n most r = Gives (λ v. v) (between n most) (λ v. (v ≡ n) × (v ≤ most)) r

-- a field of w bytes at index i, held to 1 .. most
abbrev pub Ranged : ℕ → ℕ → List ℕ → ℕ → Result (ℕ × ℕ) Refusal → Type 0
Ranged w most s i r = Gives at_of (ranged w most s i) (λ p. Moved w s i p × (p.0 ≤ most)) r

-- P, cs or cd
abbrev pub Money : Res At → Result (ℕ × ℕ) Refusal → Type 0
Money answer r = Gives at_of answer (λ p. Unit {0}) r

-- a running total with the next amount added
abbrev pub Adds : List ℕ → ℕ → Res At → Result (ℕ × ℕ) Refusal → Type 0
Adds s i answer r = Gives at_of answer (λ p. Moved 4 s i p × (p.0 ≤ limit)) r
