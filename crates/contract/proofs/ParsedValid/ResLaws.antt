-- What an answer says of the steps that gave it. Assumes nothing.
use mathlib.Core.Path.{◌≡◌, refl, subst}
use mathlib.Core.Bool.{Bool, true, false}
use Prim.Native.Nat.{ℕ}
use native.Mathlib.Omega.{arith}
use Rattle.contract.specs.Res.{Res, refused, ok, bind, test}

-- a refusal is no answer
pub never : {A X : Type 0} {n : ℕ} {a : A} → refused n ≡ ok a → X
never e = let z : ◌≡◌ {A = ℕ} 0 1 = cc in absurd (omega arith)

pub refused_inv : {A : Type 0} {m n : ℕ} → ◌≡◌ {A = Res A} (refused m) (refused n) → m ≡ n
refused_inv e = cc

pub ok_inv : {A : Type 0} {a b : A} → ok a ≡ ok b → a ≡ b
ok_inv e = cc

-- the first step has an answer, and with it the rest has one
pub bind_inv : {A B : Type 0} (r : Res A) (f : A → Res B) {b : B} → bind r f ≡ ok b → (a : A) × (r ≡ ok a) × (f a ≡ ok b)
bind_inv (refused n) f e = never e
bind_inv (ok a) f e = (a, refl, e)

-- the test is passed, and the rest has an answer
pub test_inv : {A : Type 0} (t : Bool) (n : ℕ) (r : Res A) {a : A} → test n t r ≡ ok a → (t ≡ true) × (r ≡ ok a)
test_inv true n r e = (refl, e)
test_inv false n r e = never e

-- if r has an answer, it is x, and P holds
abbrev pub Gives : {A : Type 0} → Res A → Type 0 → A → Type 0
Gives {A} r P x = (a : A) → r ≡ ok a → P × (a ≡ x)

-- so the rest has an answer with x
pub passed : {A B P : Type 0} {r : Res A} {x : A} {b : B} → Gives r P x → (f : A → Res B) → bind r f ≡ ok b → P × (f x ≡ ok b)
passed {r} {b} g f e =
    let (a, q, h) = bind_inv r f e in
    let (p, i) = g a q in
    (p, subst (λ z. f z ≡ ok b) i h)
