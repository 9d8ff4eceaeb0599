-- Laws of a record's parts as they are stored: their lengths, and what is left after each. Assumes nothing.
use mathlib.Core.Path.{◌≡◌, refl, sym, ap, ◌∙◌}
use mathlib.Core.Logic.{◌⊎◌, inl, inr}
use mathlib.Core.Bool.{Bool, true, false, cond}
use mathlib.Core.List.{List, [], ◌∷◌, ◌++◌, flat_map, append_assoc, append-nil}
use Prim.Native.Nat.{ℕ, zero, suc, ◌+◌, ◌-◌, ◌*◌, ◌≤◌, ◌<◌}
use native.Mathlib.Nat.{le_of_suc-le-suc}
use native.Mathlib.Numerals.{add-one}
use native.Mathlib.Decide.{le_ind}
use native.Mathlib.Omega.{arith}
use borrow.Author.Tests.{lt-ltb, le-ltb, ltb-true, ltb-false}
use lib.Dec.{ltb}
use lib.ListN.{length, get_or, drop, replicate, length-append, drop_of_length-le}
use lib.Seq.{drop-cons, sets, sets-eq}
use borrow.Rule.Slice.PartMut.{put_mid, Post-is}
use Rattle.area.specs.Entries.{digits, up_to}
use Rattle.area.proofs.Laws.{digits_length, up_to_length, up_to_at}
use Rattle.area.proofs.PutLaws.{Left, left_room, room_second}
use Rattle.grid.specs.Map.{stands, standing, standing_cells}
use Rattle.grid.proofs.Restore.{cells_length as standing-length}
use Rattle.contract.specs.Segments.{size}
use Rattle.contract.specs.Serialize.{money_bytes, segment_bytes}
use Rattle.contract.specs.declared.Header.{Header}
use Rattle.contract.proofs.Lengths.{segments_length, digits_all_length}
use Rattle.area.specs.Puts.{Puts}
use Rattle.record.specs.View.Write.{count_size, head_bytes, each, units_byte, Run, run_bytes}

-- ---- the head

pub head_length : (h : Header) → length (head_bytes h)
    ≡ 2 + length (money_bytes h.price) + length (money_bytes h.supplier) + length (money_bytes h.buyer) + count_size h.form
unfolding head_bytes
head_length h = simp (length-append, digits_length)

-- ---- segments

-- the default of an index within a list does not matter
pub default_any : (l : List ℕ) (i d e : ℕ) → i < length l → get_or l i d ≡ get_or l i e
default_any [] i d e h = absurd (omega arith)
default_any (x ∷ l) zero d e h = refl
default_any (x ∷ l) (suc i) d e h = default_any l i d e (le_of_suc-le-suc h)

pub each_length : (us : List ℕ) (n : ℕ) → length (each us n) ≡ n
unfolding each
each_length us n = up_to_length n (λ i. get_or us i 1)

pub each_at : (us : List ℕ) (n i : ℕ) → i < n → get_or (each us n) i 0 ≡ get_or us i 1
unfolding each
each_at us n i h = up_to_at n (λ k. get_or us k 1) i h

pub each_none : (n : ℕ) → each [] n ≡ replicate n 1
unfolding each up_to
each_none zero = refl
each_none (suc n) = ap (λ (l : List ℕ). 1 ∷ l) (each_none n)

pub each_stated : (us : List ℕ) → each us (length us) ≡ us
unfolding each up_to
each_stated [] = refl
each_stated (u ∷ us) = ap (λ (l : List ℕ). u ∷ l) (each_stated us)

-- no units are left after the last segment
pub each_past : (us : List ℕ) (n i : ℕ) → n ≤ i → drop i (each us n) ≡ []
each_past us n i h = drop_of_length-le (each us n) {i = i} (rw each_length h)

segment_cons : (p : Bool) (us cs vs : List ℕ) (i : ℕ) → i < length us → i < length cs → i < length vs
    → segment_bytes p (drop i us) (drop i cs) (drop i vs)
    ≡ (cond p (digits 1 (get_or us i 0)) [] ++ digits 4 (get_or cs i 0) ++ digits 4 (get_or vs i 0)) ++ segment_bytes p (drop (i + 1) us) (drop (i + 1) cs) (drop (i + 1) vs)
unfolding segment_bytes
segment_cons p us cs vs i a b c = rw (add-one, drop-cons us i 0 a, drop-cons cs i 0 b, drop-cons vs i 0 c)

-- the segments from segment i on
abbrev pub run_from : List ℕ → List ℕ → List ℕ → ℕ → List ℕ
run_from us cs vs i = segment_bytes (ltb 0 (length us)) (drop i (each us (length cs))) (drop i cs) (drop i vs)

module _ (us cs vs : List ℕ) (r : Run us cs vs) where
  stated_byte : (i : ℕ) → i < length cs → cond (ltb 0 (length us)) (digits 1 (get_or (each us (length cs)) i 0)) [] ≡ units_byte us i
  stated_byte i h = go r.stated
    where
      go : (us ≡ []) ⊎ (length us ≡ length cs) → cond (ltb 0 (length us)) (digits 1 (get_or (each us (length cs)) i 0)) [] ≡ units_byte us i
      go (inl e) =
          let z : length us ≡ 0 = ap length e in
          rw (le-ltb 0 (length us) (omega arith), le-ltb i (length us) (omega arith))
      go (inr e) = rw (lt-ltb 0 (length us) (omega arith), lt-ltb i (length us) (omega arith), each_at us (length cs) i h, default_any us i 1 0 (omega arith))

  -- one segment more
  pub run_turn : (i : ℕ) → i < length cs
      → run_from us cs vs i ≡ (units_byte us i ++ digits 4 (get_or cs i 0) ++ digits 4 (get_or vs i 0)) ++ run_from us cs vs (i + 1)
  run_turn i h =
      let a : i < length (each us (length cs)) = rw each_length h in
      rw (segment_cons (ltb 0 (length us)) (each us (length cs)) cs vs i a h (omega (arith, r.values_counted)), stated_byte i h)

  pub run_room : {s t : List ℕ} {k j : ℕ} (i : ℕ) → i < length cs → Left (run_bytes us cs vs) s k (run_from us cs vs i) t j → k + length (run_bytes us cs vs) ≤ length s
      → j + length (units_byte us i ++ digits 4 (get_or cs i 0) ++ digits 4 (get_or vs i 0)) ≤ length t
  run_room i h l = left_room (units_byte us i ++ digits 4 (get_or cs i 0) ++ digits 4 (get_or vs i 0)) (run_from us cs vs (i + 1)) l (run_turn i h)

  pub run_none : (i : ℕ) → length cs ≤ i → run_from us cs vs i ≡ []
  unfolding segment_bytes
  run_none i h = rw (each_past us (length cs) i h)

  pub run_length : length (run_bytes us cs vs) ≡ length us + 8 * length cs
  run_length =
      segments_length (ltb 0 (length us)) (each us (length cs)) cs vs (each_length us (length cs)) r.values_counted
      ∙ go r.stated (ltb 0 (length us)) refl
    where
      go : (us ≡ []) ⊎ (length us ≡ length cs) → (p : Bool) → ltb 0 (length us) ≡ p → length cs * size p ≡ length us + 8 * length cs
      go (inl e) true t = absurd (omega (arith, ltb-true 0 (length us) t, ap length e))
      go (inr e) true t = omega arith
      go s false t = omega (arith, ltb-false 0 (length us) t)

-- ---- bytes, and numbers of one width

-- bytes copied into their place
pub pasted : (s ys : List ℕ) (i : ℕ) → i + length ys ≤ length s → put_mid i (i + length ys - i) s ys ≡ sets s i ys
pasted s ys i h = rw (Post-is i (i + length ys) s (omega arith), sets-eq ys s i (omega arith), append_assoc)

-- one number more
pub flat_turn : (w : ℕ) (l : List ℕ) (i : ℕ) → i < length l → flat_map (digits w) (drop i l) ≡ digits w (get_or l i 0) ++ flat_map (digits w) (drop (i + 1) l)
unfolding flat_map
flat_turn w l i h = rw (add-one, drop-cons l i 0 h)

pub flat_none : (w : ℕ) (l : List ℕ) (i : ℕ) → length l ≤ i → flat_map (digits w) (drop i l) ≡ []
unfolding flat_map
flat_none w l i h = rw (drop_of_length-le l {i = i} h)

-- ---- the cells that stand

flat_append : (f : ℕ → List ℕ) (xs ys : List ℕ) → flat_map f (xs ++ ys) ≡ flat_map f xs ++ flat_map f ys
unfolding flat_map
flat_append f [] ys = refl
flat_append f (x ∷ xs) ys = rw (flat_append f xs ys) (sym (append_assoc (f x) (flat_map f xs) (flat_map f ys)))

-- the bytes of the cells that stand among the first r rows
abbrev pub cells_to : List ℕ → List ℕ → ℕ → List ℕ
cells_to map cells r = flat_map (digits 4) (standing_cells map cells r)

-- one row more
pub cells_turn : (map cells : List ℕ) (r : ℕ) → cells_to map cells (r + 1) ≡ cells_to map cells r ++ cond (stands map r) (digits 4 (get_or cells r 0)) []
unfolding standing_cells flat_map
cells_turn map cells r = rw (add-one, flat_append) (ap (λ (l : List ℕ). cells_to map cells r ++ l) (go (stands map r)))
  where
    go : (b : Bool) → flat_map (digits 4) (cond b (get_or cells r 0 ∷ []) []) ≡ cond b (digits 4 (get_or cells r 0)) []
    go true = append-nil (digits 4 (get_or cells r 0))
    go false = refl

pub cells_length : (map cells : List ℕ) (r : ℕ) → length (cells_to map cells r) ≡ 4 * standing map r
cells_length map cells r = rw (digits_all_length, standing-length)

-- room for all cells is room for the cell of the next row
pub cells_room : (map cells : List ℕ) {s t : List ℕ} {i j r n : ℕ} → r < n → Puts (cells_to map cells r) s i j t → i + length (cells_to map cells n) ≤ length s
    → j + length (cond (stands map r) (digits 4 (get_or cells r 0)) []) ≤ length t
unfolding standing
cells_room map cells {r = r} {n} h p room =
    let less : standing map (r + 1) ≤ standing map n = le_ind {n = r + 1} (λ (m : ℕ). standing map (r + 1) ≤ standing map m) (omega arith) (λ m k e. omega arith) n (omega arith) in
    room_second (cond (stands map r) (digits 4 (get_or cells r 0)) []) p (rw (← cells_turn map cells r) (omega (arith, cells_length map cells (r + 1), cells_length map cells n)))
