-- A value, or a refusal with its number.
use Rattle.std.specs.Prelude.{Bool, true, false, ℕ}

-- the value, or the number of the refusal
pub data Res (A : Type 0) : Type 0 where
  refused : ℕ → Res A
  ok : A → Res A

-- the first refusal decides
abbrev pub bind : {A B : Type 0} → Res A → (A → Res B) → Res B
bind (refused n) f = refused n
bind (ok a) f = f a

-- refusal n where the test fails
abbrev pub test : {A : Type 0} → ℕ → Bool → Res A → Res A
test n true r = r
test n false r = refused n
