-- The text that answers a record, as bytes.
use Rattle.std.specs.Prelude.{cond, List, [], ◌∷◌, ◌++◌, ℕ, zero, suc, ◌+◌, ◌/◌, ◌%◌, ltb}
use Rattle.contract.specs.Res.{Res, refused, ok}
use Rattle.exchange.specs.Deal.{State}

-- the decimal digits of n with no zeros in front; k is the most there may be
unfoldable pub spelt : ℕ → ℕ → List ℕ
spelt zero n = []
spelt (suc k) n = cond (ltb n 10) ((48 + n) ∷ []) (spelt k (n / 10) ++ ((48 + n % 10) ∷ []))

-- a number in decimal; twenty digits hold 64 bits
abbrev pub decimal : ℕ → List ℕ
decimal n = spelt 20 n

-- "One space parts the fields"
abbrev pub space : ℕ
space = 32

-- "a newline ends each line"
abbrev pub newline : ℕ
newline = 10

-- a number and the byte after it
unfoldable pub field : ℕ → ℕ → List ℕ
field n after = decimal n ++ (after ∷ [])

-- the line of a step: "its number, place, paid total"
unfoldable pub line : ℕ → State → List ℕ
line number s = field number space ++ field s.place space ++ field s.paid newline

-- "a line for each step", the first with this number
unfoldable pub lines : ℕ → List State → List ℕ
lines number [] = []
lines number (s ∷ xs) = line number s ++ lines (suc number) xs

-- `refused` and a space
abbrev pub refused_word : List ℕ
refused_word = 114 ∷ 101 ∷ 102 ∷ 117 ∷ 115 ∷ 101 ∷ 100 ∷ space ∷ []

-- `steps` and a space
abbrev pub steps_word : List ℕ
steps_word = 115 ∷ 116 ∷ 101 ∷ 112 ∷ 115 ∷ space ∷ []

-- the text for an answer of planning and the plan: "`refused` and the number, or `steps` and the count, then a line for each step"
unfoldable pub text : Res ℕ → List State → List ℕ
text (refused e) xs = refused_word ++ field e newline
text (ok n) xs = steps_word ++ field n newline ++ lines 1 xs
