-- What the plan printer promises of the text that it writes.
use Rattle.std.specs.Prelude.{List, [], ℕ, ◌≤◌, length, replicate}
use Rattle.area.specs.Puts.{Puts}
use Rattle.contract.specs.Res.{Res, refused, ok}
use Rattle.contract.specs.Parse.{parse}
use Rattle.exchange.specs.Deal.{State}
use Rattle.exchange.specs.PlanIn.{plan_in}
use Rattle.planning.specs.Areas.{Areas, areas}
use Rattle.planning.specs.Promise.{Plans}
use Rattle.text.specs.Text.{text}

-- the plan that an answer counts, "the first n entries of the places and sums"
abbrev pub plan_of : Res ℕ → List ℕ → List ℕ → List State
plan_of (refused e) places sums = []
plan_of (ok n) places sums = plan_in n places sums

-- the text for an answer, with the plan in these areas
abbrev pub text_for : Res ℕ → List ℕ → List ℕ → List ℕ
text_for answer places sums = text answer (plan_of answer places sums)

-- how many bytes the printer lends to planning: for 2,001 places
abbrev pub places_lent : ℕ
places_lent = 4002

-- for 2,001 sums
abbrev pub sums_lent : ℕ
sums_lent = 8004

-- for the order
abbrev pub order_lent : ℕ
order_lent = 8

-- and for the work of 128 rows
abbrev pub work_lent : ℕ
work_lent = 32768

-- the areas that it lends, all zero
abbrev pub lent : Areas
lent = areas (replicate places_lent 0) (replicate sums_lent 0) (replicate order_lent 0) (replicate work_lent 0)

-- the area begins with the text of an answer and a plan that keep the promise of planning; all later bytes are as they were. No refusal but the
-- record's own stands ahead of 9: the printer's areas are never too short
pub record Prints (bytes before : List ℕ) (r : ℕ) (after : List ℕ) : Type 0 where
  pub answer : Res ℕ
  pub filled : Areas
  pub plans : Plans (parse bytes) answer lent filled
  pub puts : Puts (text_for answer filled.places filled.sums) before 0 r after
  pub fits : r ≤ length after
