-- The lists of the search have room: each row stands in them once. Assumes nothing.
use mathlib.Core.Path.{◌≡◌, refl, sym, ap, ◌∙◌}
use mathlib.Core.Bool.{Bool, true, false, cond}
use mathlib.Core.List.{List}
use Prim.Native.Nat.{ℕ, zero, suc, ◌+◌, ◌≤◌, ◌<◌}
use native.Mathlib.Nat.{le_refl}
use native.Mathlib.Decide.{ℕ_discrete, dec_lt}
use native.Mathlib.Numerals.{add-one}
use native.Mathlib.Omega.{arith}
use borrow.Author.Tests.{lt-ltb, le-ltb}
use lib.Dec.{ltb}
use lib.ListN.{length, get_or, set, replicate, length-set, length-replicate, get_or-replicate}
use lib.Seq.{get_or-set_same, get_or-set_other}
use Rattle.search.specs.Layers.{mark, Among, below, Listing, RowListed}

-- ---- the number of entries below a number

module _ (m : ℕ) where
  pub below_le : (xs : List ℕ) (k : ℕ) → below m xs k ≤ k
  unfolding below
  below_le xs zero = le_refl 0
  below_le xs (suc k) = go (ltb (get_or xs k 0) m) (below_le xs k)
    where
      go : (t : Bool) → below m xs k ≤ k → cond t (suc (below m xs k)) (below m xs k) ≤ suc k
      go true h = omega arith
      go false h = omega arith

  pub below_none : (xs : List ℕ) (k : ℕ) → ((a : ℕ) → a < k → m ≤ get_or xs a 0) → below m xs k ≡ 0
  unfolding below
  below_none xs zero h = refl
  below_none xs (suc k) h = rw (le-ltb (get_or xs k 0) m (h k (le_refl _))) (below_none xs k (λ a l. h a (omega arith)))

  below_ext : (xs ys : List ℕ) (k : ℕ) → ((a : ℕ) → a < k → ltb (get_or xs a 0) m ≡ ltb (get_or ys a 0) m) → below m xs k ≡ below m ys k
  unfolding below
  below_ext xs ys zero h = refl
  below_ext xs ys (suc k) h = rw (h k (le_refl _), below_ext xs ys k (λ a l. h a (omega arith)))

  module _ (xs : List ℕ) (a v : ℕ) (l : a < length xs) (low : v < m) where
    other : (b : ℕ) → (b ≡ a → ⊥) → ltb (get_or (set xs a v) b 0) m ≡ ltb (get_or xs b 0) m
    other b n = rw (get_or-set_other xs a b v 0 n)

    below_again : get_or xs a 0 < m → (k : ℕ) → below m (set xs a v) k ≡ below m xs k
    below_again h k = below_ext (set xs a v) xs k (λ b j. go b (ℕ_discrete b a))
      where
        go : (b : ℕ) → Dec (b ≡ a) → ltb (get_or (set xs a v) b 0) m ≡ ltb (get_or xs b 0) m
        go b (yes q) = rw (q, get_or-set_same xs a v 0 l, lt-ltb v m low, lt-ltb (get_or xs a 0) m h)
        go b (no n) = other b n

    pub below_more : m ≤ get_or xs a 0 → (k : ℕ) → a < k → below m (set xs a v) k ≡ suc (below m xs k)
    unfolding below
    below_more h zero j = absurd (omega arith)
    below_more h (suc k) j = go (ℕ_discrete k a) (below_more h k)
      where
        step : (t : Bool) → below m (set xs a v) k ≡ suc (below m xs k)
            → cond t (suc (below m (set xs a v) k)) (below m (set xs a v) k) ≡ suc (cond t (suc (below m xs k)) (below m xs k))
        step true e = ap suc e
        step false e = e

        go : Dec (k ≡ a) → (a < k → below m (set xs a v) k ≡ suc (below m xs k)) → below m (set xs a v) (suc k) ≡ suc (below m xs (suc k))
        go (yes q) ih =
            rw (q, get_or-set_same xs a v 0 l, lt-ltb v m low, le-ltb (get_or xs a 0) m h)
            (ap suc (below_ext (set xs a v) xs a (λ b i. other b (λ z. omega arith))))
        go (no n) ih = rw (other k n) (step (ltb (get_or xs k 0) m) (ih (omega arith)))

    -- an entry that is not below finds room: with it there are no more than all
    pub below_room : m ≤ get_or xs a 0 → (k : ℕ) → a < k → below m xs k < k
    below_room h k j = omega (arith, below_more h k j, below_le (set xs a v) k)

-- ---- the rows that have an offer

pub listing_start : (list : List ℕ) (rows : ℕ) → rows ≤ 128 → length list ≡ 129 → Listing (replicate 128 mark) list 0 rows
listing_start list rows few h =
    record {
      next_long = length-replicate {A = ℕ} 128 mark;
      list_long = h;
      counted = sym (below_none mark (replicate 128 mark) rows (λ a l. rw (all a l) (le_refl mark)));
      few = omega arith;
      lists = λ a l m. absurd (omega (arith, all a l));
      in_rows = λ i l. absurd (omega arith);
      taken = λ i l. absurd (omega arith);
    }
  where
    all : (a : ℕ) → a < rows → get_or (replicate 128 mark) a 0 ≡ mark
    all a l = get_or-replicate 128 a mark 0 (omega arith)

module _ {next list : List ℕ} {n rows : ℕ} (h : Listing next list n rows) (few : rows ≤ 128) (a : ℕ) (l : a < rows) {v : ℕ} (low : v < mark) where
  in_next : a < length next
  in_next = omega (arith, h.next_long)

  here : get_or (set next a v) a 0 ≡ v
  here = get_or-set_same next a v 0 in_next

  -- the listed rows stay as row a is written behind them
  kept : (i : ℕ) → i < n → get_or (set list n a) i 0 ≡ get_or list i 0
  kept i k = get_or-set_other list n i a 0 (λ q. omega arith)

  still : (b : ℕ) → get_or next b 0 < mark → get_or (set next a v) b 0 < mark
  still b m = go (ℕ_discrete b a)
    where
      go : Dec (b ≡ a) → get_or (set next a v) b 0 < mark
      go (yes q) = rw (q, here) low
      go (no z) = rw (get_or-set_other next a b v 0 z) m

  -- a row that is listed, or row a itself
  among : {k : ℕ} → n ≤ k → (b : ℕ) → b < rows → get_or (set next a v) b 0 < mark → (a ≡ b → Among (set list n a) k b) → Among (set list n a) k b
  among {k} more b i m own = go (ℕ_discrete b a)
    where
      go : Dec (b ≡ a) → Among (set list n a) k b
      go (yes q) = own (sym q)
      go (no z) =
          let x = h.lists b i (rw (get_or-set_other next a b v 0 z) at m) in
          record { index = x.index; below = omega (arith, x.below); entry = kept x.index x.below ∙ x.entry }

  -- it has one more offer
  again : get_or next a 0 < mark → Listing (set next a v) (set list n a) n rows
  again m =
      record {
        next_long = length-set next a v ∙ h.next_long;
        list_long = length-set list n a ∙ h.list_long;
        counted = h.counted ∙ sym (below_again mark next a v in_next low m rows);
        few = h.few;
        lists = λ b i k. among (le_refl n) b i k own;
        in_rows = λ i k. rw (kept i k) (h.in_rows i k);
        taken = λ i k. rw (kept i k) (still (get_or list i 0) (h.taken i k));
      }
    where
      own : {b : ℕ} → a ≡ b → Among (set list n a) n b
      own q =
          let x = h.lists a l m in
          record { index = x.index; below = x.below; entry = kept x.index x.below ∙ x.entry ∙ q }

  -- it has its first offer
  new : mark ≤ get_or next a 0 → Listing (set next a v) (set list n a) (n + 1) rows
  new m =
      record {
        next_long = length-set next a v ∙ h.next_long;
        list_long = length-set list n a ∙ h.list_long;
        counted = rw add-one (ap suc h.counted ∙ sym (below_more mark next a v in_next low m rows l));
        few = omega (arith, room);
        lists = λ b i k. among (omega arith) b i k (λ q. record { index = n; below = omega arith; entry = last ∙ q });
        in_rows = λ i k. row i k (ℕ_discrete i n);
        taken = λ i k. less i k (ℕ_discrete i n);
      }
    where
      room : n < rows
      room = omega (arith, below_room mark next a v in_next low m rows l, h.counted)

      last : get_or (set list n a) n 0 ≡ a
      last = get_or-set_same list n a 0 (omega (arith, room, h.list_long))

      row : (i : ℕ) → i < n + 1 → Dec (i ≡ n) → get_or (set list n a) i 0 < rows
      row i k (yes q) = rw (q, last) l
      row i k (no z) = rw (kept i (omega arith)) (h.in_rows i (omega arith))

      less : (i : ℕ) → i < n + 1 → Dec (i ≡ n) → get_or (set next a v) (get_or (set list n a) i 0) 0 < mark
      less i k (yes q) = rw (q, last, here) low
      less i k (no z) = rw (kept i (omega arith)) (still (get_or list i 0) (h.taken i (omega arith)))

  -- row a has this offer now
  pub listing_next : {list' : List ℕ} {n' : ℕ} → RowListed list n a (get_or next a 0) list' n' → Listing (set next a v) list' n' rows
  listing_next {list'} {n'} r = go (dec_lt (get_or next a 0) mark)
    where
      go : Dec (get_or next a 0 < mark) → Listing (set next a v) list' n' rows
      go (yes m) = rw (r.list_is, r.count_is, lt-ltb (get_or next a 0) mark m) (again m)
      go (no m) = rw (r.list_is, r.count_is, le-ltb (get_or next a 0) mark (omega arith)) (new (omega arith))
