-- Laws of stores one after the other: two in a row, and what is left of a run of stores. Assumes nothing.
use mathlib.Core.Path.{◌≡◌, refl, sym, ap, ◌∙◌}
use mathlib.Core.List.{List, [], ◌++◌}
use Prim.Native.Nat.{ℕ, ◌+◌, ◌≤◌}
use native.Mathlib.Nat.{add-zero, add_assoc}
use native.Mathlib.Omega.{arith}
use lib.ListN.{length, length-append}
use lib.Seq.{sets, length-sets}
use Rattle.area.specs.Puts.{Puts}
use Rattle.area.proofs.Laws.{sets_append}

-- ---- two in a row

pub puts_none : (s : List ℕ) (i : ℕ) → Puts [] s i i s
puts_none s i = record { stores = refl; next = sym (add-zero i) }

pub puts_then : {a b s t u : List ℕ} {i j k : ℕ} → Puts a s i j t → Puts b t j k u → Puts (a ++ b) s i k u
puts_then {a} {b} {s} {i = i} p q =
    record { stores = q.stores ∙ rw (p.stores, p.next) (sets_append s i a b); next = q.next ∙ rw (p.next, length-append) (add_assoc i (length a) (length b)) }

pub puts_length : {a s t : List ℕ} {i j : ℕ} → Puts a s i j t → length t ≡ length s
puts_length {a} {s} {i = i} p = rw p.stores (length-sets s i a)

-- room for both is room for the second after the first
pub room_second : (b : List ℕ) {a s t : List ℕ} {i j : ℕ} → Puts a s i j t → i + length (a ++ b) ≤ length s → j + length b ≤ length t
room_second b {a} p h = omega (arith, puts_length p, p.next, length-append a b)

-- ---- what is left

-- storing what is left makes what storing all made
pub record Left (all before : List ℕ) (i : ℕ) (rest after : List ℕ) (j : ℕ) : Type 0 where
  pub same : sets after j rest ≡ sets before i all
  pub end : j + length rest ≡ i + length all
  pub kept : length after ≡ length before

pub left_all : (all s : List ℕ) (i : ℕ) → Left all s i all s i
left_all all s i = record { same = refl; end = refl; kept = refl }

pub left_turn : (a rest' : List ℕ) {all s rest t u : List ℕ} {i j k : ℕ} → Left all s i rest t j → rest ≡ a ++ rest' → Puts a t j k u → Left all s i rest' u k
left_turn a rest' {t = t} {j = j} l e p =
    record {
      same = rw (p.stores, p.next, sets_append, ← e) l.same;
      end = omega (arith, l.end, p.next, length-append a rest', ap length e);
      kept = puts_length p ∙ l.kept;
    }

-- room for all is room for what is stored next
pub left_room : (a rest' : List ℕ) {all s rest t : List ℕ} {i j : ℕ} → Left all s i rest t j → rest ≡ a ++ rest' → i + length all ≤ length s → j + length a ≤ length t
left_room a rest' l e h = omega (arith, l.end, l.kept, ap length e, length-append a rest')

pub left_done : {all s rest t : List ℕ} {i j : ℕ} → Left all s i rest t j → rest ≡ [] → Puts all s i j t
left_done {j = j} l e = record { stores = rw e at l.same; next = sym (add-zero j) ∙ rw e at l.end }
