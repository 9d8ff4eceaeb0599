-- The order that is chosen for unit prices: the items, counted from 0, each with all its units together. The sentences quoted here are W2's.
use Rattle.std.specs.Prelude.{◌≡◌, ◌⊎◌, List, [], ◌∷◌, ◌++◌, reverse, ℕ, ◌-◌, ◌≤◌, ◌<◌, leb, ℤ, pos, ◌-ℤ◌, length, get_or, replicate, ◌≤ℤ◌}
use Rattle.exchange.specs.Deal.{Deal, unclipped}
use Rattle.exchange.specs.Forms.{order_terms, occurs}
use Rattle.exchange.specs.declared.Sides.{Sides}

-- "upper less lower" at a place
abbrev pub slack : Deal → ℕ → ℤ
slack d x = d.upper x -ℤ d.lower x

-- the entry of item j
abbrev pub at : List ℕ → ℕ → ℕ
at l j = get_or l j 0

-- the units of the items of a list, one item after the other
unfoldable pub together : List ℕ → List ℕ → List ℕ
together units [] = []
together units (j ∷ items) = replicate (at units j) j ++ together units items

-- item j is preferred to item i: its surplus is greater, or equal and its number no higher: "The lower item number is taken on a tie"
abbrev pub Preferred : (ℕ → ℕ) → ℕ → ℕ → Type 0
Preferred surplus j i = (surplus i < surplus j) ⊎ ((surplus i ≡ surplus j) × (j ≤ i))

-- item j is the next one: of those that may be next "the one with the greatest" surplus
pub record Next (May : ℕ → Type 0) (surplus : ℕ → ℕ) (j : ℕ) : Type 0 where
  pub may : May j
  pub greatest : (i : ℕ) → May i → Preferred surplus j i

-- "again and again": each item of a list is the next one after those placed before it
abbrev pub AgainAndAgain : (List ℕ → ℕ → Type 0) → List ℕ → List ℕ → Type 0
AgainAndAgain IsNext placed [] = Unit {0}
AgainAndAgain IsNext placed (j ∷ items) = IsNext placed j × AgainAndAgain IsNext (placed ++ (j ∷ [])) items

-- by the bounds of a deal d
module _ (d : Deal) (units costs values : List ℕ) where
  -- an item that may follow those placed from the first place on: it is not placed yet, "unit cost is at least the unit value", and "unit
  -- value is at most upper less lower there", at the place reached
  pub record MayFollow (placed : List ℕ) (j : ℕ) : Type 0 where
    pub item : j < length units
    pub left : occurs j placed ≡ 0
    pub first : at values j ≤ at costs j
    pub room : pos (at values j) ≤ℤ slack d (length (together units placed))

  -- one of "The others" that may precede those placed from the last place backwards: it is not placed yet, and "unit cost is at most upper
  -- less lower after it", which is the place where theirs begin
  pub record MayPrecede (placed : List ℕ) (j : ℕ) : Type 0 where
    pub item : j < length units
    pub left : occurs j placed ≡ 0
    pub other : at costs j < at values j
    pub room : pos (at costs j) ≤ℤ slack d (d.last - length (together units placed))

  -- the items in the chosen order, each once: first those taken by "the greatest cost less value of a unit", then the others, which "fill
  -- the places from the last backwards: the greatest value less cost of a unit". No difference is cut off at 0: a first costs at least its
  -- value, and another less than its value
  pub record InChosenOrder (items : List ℕ) : Type 0 where
    pub firsts : List ℕ
    pub others : List ℕ
    pub joined : items ≡ firsts ++ reverse others
    pub each_once : (j : ℕ) → j < length units → occurs j items ≡ 1
    pub forwards : AgainAndAgain (λ placed. Next (MayFollow placed) (λ j. at costs j - at values j)) [] firsts
    pub backwards : AgainAndAgain (λ placed. Next (MayPrecede placed) (λ j. at values j - at costs j)) [] others

-- the items of unit prices in the chosen order, by the bounds along that very order; W4: "W2's difference is still taken between the
-- unclipped bounds"
abbrev pub IsChosen : Sides → List ℕ → List ℕ → List ℕ → List ℕ → Type 0
IsChosen p units costs values items =
    InChosenOrder (unclipped (order_terms p costs values (together units items)) leb) units costs values items
