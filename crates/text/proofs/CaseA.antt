-- The output of case A in the requirements, byte for byte, is the definition's; and so is that of a refusal. Assumes nothing.
use mathlib.Core.Path.{◌≡◌, refl}
use mathlib.Core.List.{List, [], ◌∷◌}
use Prim.Native.Nat.{ℕ}
use Rattle.contract.specs.Res.{refused, ok}
use Rattle.exchange.specs.Deal.{State}
use Rattle.text.specs.Text.{text, spelt, field, line, lines}

-- a state
abbrev at : ℕ → ℕ → State
at place paid = record { place = place; paid = paid }

-- `steps 5`, and a line for each of the five steps
abbrev printed : List ℕ
printed =
    115 ∷ 116 ∷ 101 ∷ 112 ∷ 115 ∷ 32 ∷ 53 ∷ 10 ∷
    49 ∷ 32 ∷ 48 ∷ 32 ∷ 51 ∷ 10 ∷
    50 ∷ 32 ∷ 49 ∷ 32 ∷ 51 ∷ 10 ∷
    51 ∷ 32 ∷ 49 ∷ 32 ∷ 55 ∷ 10 ∷
    52 ∷ 32 ∷ 50 ∷ 32 ∷ 55 ∷ 10 ∷
    53 ∷ 32 ∷ 50 ∷ 32 ∷ 49 ∷ 48 ∷ 10 ∷ []

pub case_a : text (ok 5) (at 0 3 ∷ at 1 3 ∷ at 1 7 ∷ at 2 7 ∷ at 2 10 ∷ []) ≡ printed
unfolding text spelt field line lines
case_a = refl

-- `refused 9`
pub case_b : text (refused 9) [] ≡ 114 ∷ 101 ∷ 102 ∷ 117 ∷ 115 ∷ 101 ∷ 100 ∷ 32 ∷ 57 ∷ 10 ∷ []
unfolding text spelt field
case_b = refl
