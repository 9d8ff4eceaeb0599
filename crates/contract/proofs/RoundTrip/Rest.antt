-- What is left to read of a record, as the pieces that were written. Assumes nothing.
use mathlib.Core.Path.{◌≡◌, sym, ap, ◌∙◌}
use mathlib.Core.List.{List, [], ◌∷◌, flatten}
use Prim.Native.Nat.{ℕ, ◌+◌, ◌^◌, ◌≤◌, ◌<◌}
use native.Mathlib.Nat.{zero-add, add-sub_cancel_left}
use native.Mathlib.Omega.{arith}
use lib.ListN.{length, drop, length-append}
use lib.Seq.{take_at, drop_at, drop-drop}
use Rattle.area.specs.Entries.{num, digits}
use Rattle.area.proofs.Laws.{digits_length, num_part}
use Rattle.contract.specs.Table.{part}

-- from index i on, s is these pieces, one after the other
pub record Rest (s : List ℕ) (i : ℕ) (pieces : List (List ℕ)) : Type 0 where
  pub bytes : drop i s ≡ flatten pieces
  pub size : i + length (flatten pieces) ≡ length s

-- nothing is read yet
pub start : {s : List ℕ} {pieces : List (List ℕ)} → s ≡ flatten pieces → Rest s 0 pieces
start e = record { bytes = e; size = zero-add _ ∙ sym (ap length e) }

-- the same bytes in other pieces
pub cut : {s : List ℕ} {i : ℕ} {ps : List (List ℕ)} (qs : List (List ℕ)) → flatten ps ≡ flatten qs → Rest s i ps → Rest s i qs
cut qs e h = record { bytes = h.bytes ∙ e; size = rw (← e) h.size }

-- all is read
pub at_end : {s : List ℕ} {i : ℕ} → Rest s i [] → i ≡ length s
unfolding flatten
at_end h = omega arith

-- the first piece, of n bytes
module _ {s : List ℕ} {i : ℕ} {a : List ℕ} {ps : List (List ℕ)} {n : ℕ} (e : length a ≡ n) (h : Rest s i (a ∷ ps)) where
  pub past : Rest s (i + n) ps
  unfolding flatten
  past = record { bytes = rw (← drop-drop n i s, h.bytes) (drop_at a (flatten ps) n e); size = omega (arith, length-append a (flatten ps)) }

  pub room : i + n ≤ length s
  unfolding flatten
  room = omega (arith, length-append a (flatten ps))

  pub part_is : part i (i + n) s ≡ a
  unfolding flatten
  part_is = rw (add-sub_cancel_left, h.bytes) (take_at a (flatten ps) n e)

-- the first piece is a number
pub num_is : {s : List ℕ} {i : ℕ} {ps : List (List ℕ)} (w v : ℕ) → v < 256 ^ w → Rest s i (digits w v ∷ ps) → num w s i ≡ v
num_is {s} {i} w v l h = num_part w s i v (rw add-sub_cancel_left at (part_is (digits_length w v) h)) l
