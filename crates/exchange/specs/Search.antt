-- The search for a plan with fewest steps over rows, in the working form. It goes backwards: for each row, the least paid sum from which
-- the end is reached in so many steps; the plan is then read forwards.
use Rattle.std.specs.Prelude.{Bool, cond, ◌&&◌, ℕ, zero, suc, ◌+◌, ◌*◌, min, leb, eqb}
use mathlib.Core.List.{List, [], ◌∷◌, foldr}
use Rattle.exchange.specs.Deal.{State, start}
use Rattle.exchange.specs.Work.{Work}

-- row b can follow row a: it holds the units of a, and what it needs may be paid at a, before b is delivered
abbrev pub follows : Work → (ℕ → ℕ) → ℕ → ℕ → Bool
follows w needs a b = w.holds a b && leb (needs b) (w.cap a)

-- the least floor among those of the rows below n that can follow row a; the mark if none can
unfoldable pub least_floor : Work → ℕ → (ℕ → ℕ) → ℕ → ℕ → ℕ
least_floor w mark needs a zero = mark
least_floor w mark needs a (suc n) = cond (follows w needs a n) (min (w.floor n) (least_floor w mark needs a n)) (least_floor w mark needs a n)

-- the least sum paid at row a from which the end is reached in j steps; the mark, above every sum, if it is not reached
unfoldable pub need : Work → ℕ → ℕ → ℕ → ℕ
need w mark zero a = cond (eqb a w.last) w.price mark
need w mark (suc j) a = least_floor w mark (need w mark j) a (suc w.last)

-- the first of the k numbers from i on that passes the test; i + k if none does
unfoldable pub first_of : (ℕ → Bool) → ℕ → ℕ → ℕ
first_of test i zero = i
first_of test i (suc k) = cond (test i) i (first_of test (suc i) k)

-- the number of steps: the first from 1 to most after which the start needs nothing; above most if none is
unfoldable pub count : Work → ℕ → ℕ → ℕ
count w mark most = first_of (λ j. leb (need w mark j 0) 0) 1 most

-- "at most 2U + 1 steps, U being all units", by the units of each item
abbrev pub most_steps : List ℕ → ℕ
most_steps us = 2 * foldr ◌+◌ 0 us + 1

-- row b can be delivered at s: it can follow, and its floor is covered by what is paid
abbrev pub fits : Work → (ℕ → ℕ) → State → ℕ → Bool
fits w needs s b = follows w needs s.place b && leb (w.floor b) s.paid

-- a step with j steps left after it: to the first row that can be delivered, paying the most that is afforded
unfoldable pub forward : Work → ℕ → ℕ → State → State
forward w mark j s = record { place = first_of (fits w (need w mark j) s) 0 (suc w.last); paid = w.cap s.place }

-- the plan read forwards, j steps from s on
unfoldable pub forwards : Work → ℕ → ℕ → State → List State
forwards w mark zero s = []
forwards w mark (suc j) s = forward w mark j s ∷ forwards w mark j (forward w mark j s)

-- the plan of that many steps from (0, 0)
abbrev pub planned : Work → ℕ → ℕ → List State
planned w mark most = forwards w mark (count w mark most) start
