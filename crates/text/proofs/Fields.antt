-- Fields and lines put one after the other. Assumes nothing.
use mathlib.Core.Path.{◌≡◌, refl, sym, ap, ◌∙◌}
use mathlib.Core.List.{List, [], ◌∷◌, ◌++◌}
use Prim.Native.Nat.{ℕ, suc, ◌+◌, ◌-◌, ◌*◌, ◌^◌, ◌≤◌, ◌<◌, zero-le}
use native.Mathlib.Numerals.{add-one}
use native.Mathlib.Omega.{arith}
use lib.ListN.{length, drop, set, length-append, drop_of_length-le}
use Rattle.io.specs.Digits.{last_digits, IsDigitCount}
use Rattle.area.specs.Puts.{Puts}
use Rattle.area.proofs.PutLaws.{puts_then, puts_length, Left, left_all, left_turn, left_done}
use Rattle.exchange.specs.Deal.{State}
use Rattle.exchange.specs.PlanIn.{plan_in}
use Rattle.exchange.proofs.PlanInLaws.{entry_in, plan_from, plan_length}
use Rattle.text.specs.Text.{decimal, field, line, lines}
use Rattle.text.specs.Code.{Room}
use Rattle.text.proofs.Decimal.{spelt_is, spelt_short, few_digits}

-- ---- fields

-- a number below ten to the j has at most j digits
pub decimal_short : (j n : ℕ) → n < 10 ^ suc j → length (decimal n) ≤ suc j
decimal_short j n h = spelt_short 20 j n h

pub field_length : (n after : ℕ) → length (field n after) ≡ length (decimal n) + 1
unfolding field
field_length n after = length-append (decimal n) (after ∷ [])

-- digits, and the byte stored after them, are a field
module _ (n k : ℕ) {text : List ℕ} (small : n < 10 ^ 20) (fewest : IsDigitCount 10 1 n k) (spelled : text ≡ last_digits 10 k n) where
  decimal_is : text ≡ decimal n
  decimal_is = let some : 0 < 20 = omega arith in spelled ∙ spelt_is 20 k n fewest (few_digits 20 k n small some fewest)

  pub decimal_length : length (decimal n) ≡ length text
  decimal_length = ap length (sym decimal_is)

  pub field_put : (after : ℕ) {s t : List ℕ} {i j : ℕ} → Puts text s i j t → Puts (field n after) s i (j + 1) (set t j after)
  unfolding field
  field_put after p = puts_then (rw decimal_is at p) record { stores = refl; next = refl }

-- ---- lines

-- a line has at most 23 bytes
pub line_short : (number : ℕ) (s : State) → number < 100000 → s.place < 65536 → s.paid < 4294967296 → length (line number s) ≤ 23
unfolding line
line_short number s a b c =
    omega (
      arith,
      length-append (field number 32 ++ field s.place 32) (field s.paid 10),
      length-append (field number 32) (field s.place 32),
      field_length number 32,
      field_length s.place 32,
      field_length s.paid 10,
      decimal_short 4 number (omega arith),
      decimal_short 4 s.place (omega arith),
      decimal_short 9 s.paid (omega arith),
    )

-- the lines from step i + 1 on
abbrev pub lines_from : ℕ → List ℕ → List ℕ → ℕ → List ℕ
lines_from count places sums i = lines (suc i) (drop i (plan_in count places sums))

-- what is left to put before step k + 1, and the room that is left for it
pub record Lining (count : ℕ) (places sums before : List ℕ) (i : ℕ) (after : List ℕ) (j k : ℕ) : Type 0 where
  pub so_far : k ≤ count
  pub room : j + (count - k) * 23 ≤ length after
  pub left : Left (lines 1 (plan_in count places sums)) before i (lines_from count places sums k) after j

module _ {count : ℕ} {places sums before : List ℕ} {i : ℕ} (room : Room count places sums before i) where
  pub lining_starts : Lining count places sums before i before i 0
  lining_starts = record { so_far = zero-le; room = omega (arith, room.fits); left = left_all _ before i }

  module _ {after : List ℕ} {j k : ℕ} (l : Lining count places sums before i after j k) where
    pub lining_turn : k < count → {place paid m : ℕ} {next : List ℕ} → place ≡ (entry_in places sums k).place → paid ≡ (entry_in places sums k).paid
        → place < 65536 → paid < 4294967296 → Puts (line (k + 1) (record { place = place; paid = paid })) after j m next
        → Lining count places sums before i next m (k + 1)
    unfolding lines
    lining_turn h {place} {paid} e f a b p =
        let short = line_short (k + 1) (record { place = place; paid = paid }) (omega (arith, room.numbers)) a b in
        let step : lines_from count places sums k ≡ line (k + 1) (record { place = place; paid = paid }) ++ lines_from count places sums (k + 1) =
        rw (plan_from places sums count room.in_places room.in_sums k h, e, f, add-one)
        in record {
          so_far = omega arith;
          room = omega (arith, short, l.room, p.next, puts_length p);
          left = left_turn _ (lines_from count places sums (k + 1)) l.left step p;
        }

    pub lining_ends : count ≤ k → Puts (lines 1 (plan_in count places sums)) before i j after
    unfolding lines
    lining_ends h =
        let all : length (plan_in count places sums) ≤ k = omega (arith, plan_length places sums count room.in_places room.in_sums) in
        left_done l.left (rw (drop_of_length-le (plan_in count places sums) all))
