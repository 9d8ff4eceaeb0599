-- Rows that offer their floor to others: the best offer of each row. Assumes nothing.
use mathlib.Core.Path.{◌≡◌, refl, sym, ◌∙◌}
use mathlib.Core.Bool.{Bool, true, false, cond, ◌&&◌}
use mathlib.Core.List.{List}
use Prim.Native.Nat.{ℕ, min, ◌+◌, ◌≤◌, ◌<◌}
use native.Mathlib.Decide.{ℕ_discrete, dec_lt}
use native.Mathlib.Omega.{arith}
use borrow.Author.Tests.{le-leb, lt-leb}
use lib.Dec.{T, leb, ltb}
use lib.ListN.{length, get_or, set, replicate, length-set, get_or-replicate}
use lib.Seq.{get_or-set_same, get_or-set_other}
use Rattle.grid.specs.Rows.{rows_of}
use Rattle.exchange.specs.Forms.{holds_row}
use Rattle.exchange.proofs.TableLaws.{row_self}
use Rattle.exchange.proofs.TablePlan.RowUnits.{holds_rises}
use Rattle.std.proofs.Common.{Option, Some, IfSome}
use Rattle.held.specs.Down.{Open, Down, rows_left}
use Rattle.search.specs.Layers.{mark, offer_to, Offers, Front, row_at, floor_of, need_at, OffersTo, Taken, Best, Offered}

is_true : (x : Bool) → T x → x ≡ true
is_true true t = refl
is_true false t = absurd t

-- ---- the loop over the rows that an offer goes to

-- a row that is not open keeps its offer
keeps : (us caps : List ℕ) (b need floor a o : ℕ) → (Open us caps b need a → ⊥) → o ≡ offer_to us caps b need floor a o
unfolding offer_to
keeps us caps b need floor a o n = go (holds_row us a b) refl (dec_lt (get_or caps a 0) need)
  where
    go : (t : Bool) → holds_row us a b ≡ t → Dec (get_or caps a 0 < need) → o ≡ cond (t && leb need (get_or caps a 0)) (min floor o) o
    go false e d = refl
    go true e (yes l) = rw (lt-leb need (get_or caps a 0) l)
    go true e (no m) = absurd (n (record { held = rw e tt; pays = omega arith }))

-- an open row takes the lesser of the floor and its best offer
judges : (us caps : List ℕ) (b need floor a o : ℕ) → Open us caps b need a → offer_to us caps b need floor a o ≡ min floor o
unfolding offer_to
judges us caps b need floor a o x = rw (is_true (holds_row us a b) x.held, le-leb need (get_or caps a 0) x.pays)

module _ (us caps : List ℕ) (b need floor : ℕ) where
  -- the rows after this one have been offered the floor of row b; it and those before it have not, and it is open
  pub record Offering (next₀ next : List ℕ) (row : Option ℕ) : Type 0 where
    pub long : length next ≡ 128
    pub within : rows_left row ≤ b + 1
    pub opens : IfSome row (λ a. Open us caps b need a)
    pub done : (a : ℕ) → rows_left row ≤ a → a < rows_of us → get_or next a 0 ≡ offer_to us caps b need floor a (get_or next₀ a 0)
    pub left : (a : ℕ) → a < rows_left row → get_or next a 0 ≡ get_or next₀ a 0

  -- no row after row b is held by it
  pub offering_start : (next : List ℕ) → length next ≡ 128 → b < rows_of us → need ≤ get_or caps b 0 → Offering next next (Some b)
  offering_start next p few pays =
      record {
        long = p;
        within = omega arith;
        opens = record { held = row_self us b; pays = pays };
        done = λ a m s. keeps us caps b need floor a (get_or next a 0) (λ o. omega (arith, holds_rises us a b s few o.held));
        left = λ a m. refl;
      }

  module _ {next₀ next : List ℕ} {row : Option ℕ} (h : Offering next₀ next row) where
    module _ {at : ℕ} (here : row ≡ Some at) where
      pub offering_row : (at ≤ b) × Open us caps b need at
      offering_row = (omega (arith, rw here at h.within), rw here at h.opens)

      left_is : rows_left row ≡ at + 1
      left_is = rw here

      -- from this row to the next open row down
      pub offering_next : b < 128 → {row' : Option ℕ} → Down us caps b need at row' → {v : ℕ} → v ≡ min floor (get_or next at 0)
          → Offering next₀ (set next at v) row'
      offering_next few {row'} d {v} e =
          record {
            long = length-set next at v ∙ h.long;
            within = omega (arith, offering_row.0, d.lower);
            opens = d.opens;
            done = λ a m s. go a m s (ℕ_discrete a at) (dec_lt a at);
            left = λ a m. other a (λ z. omega (arith, d.lower)) ∙ h.left a (omega (arith, d.lower, left_is));
          }
        where
          other : (a : ℕ) → (a ≡ at → ⊥) → get_or (set next at v) a 0 ≡ get_or next a 0
          other a n = get_or-set_other next at a v 0 n

          offered : v ≡ offer_to us caps b need floor at (get_or next₀ at 0)
          offered = rw (← h.left at (omega (arith, left_is))) (e ∙ sym (judges us caps b need floor at (get_or next at 0) offering_row.1))

          go : (a : ℕ) → rows_left row' ≤ a → a < rows_of us → Dec (a ≡ at) → Dec (a < at)
              → get_or (set next at v) a 0 ≡ offer_to us caps b need floor a (get_or next₀ a 0)
          go a m s (yes z) c = rw z (get_or-set_same next at v 0 (omega (arith, offering_row.0, h.long)) ∙ offered)
          -- the rows that are passed over keep their offers
          go a m s (no z) (yes c) = other a z ∙ h.left a (omega (arith, left_is)) ∙ keeps us caps b need floor a (get_or next₀ a 0) (d.passed a m c)
          go a m s (no z) (no c) = other a z ∙ h.done a (omega (arith, left_is)) s

-- ---- the loop over the rows that offer

module _ (f : Front) (i b : ℕ) (e : b ≡ row_at f i) where
  pub need_at_lem : {x : ℕ} → x ≡ cond (ltb i f.window.fresh) (get_or f.floors b 0) (get_or f.firsts b 0) → x ≡ need_at f i
  need_at_lem q = q ∙ rw e

  pub floor_at : {x : ℕ} → x ≡ get_or f.floors b 0 → x ≡ floor_of f i
  floor_at q = q ∙ rw e

module _ (us caps : List ℕ) (f : Front) where
  pub offered_none : rows_of us ≤ 128 → Offered us caps f f.window.from (replicate 128 mark)
  offered_none few a l =
      let e : get_or (replicate 128 mark) a 0 ≡ mark = get_or-replicate 128 a mark 0 (omega arith) in
      record { marked = omega arith; taken = λ h. absurd (omega arith); least = λ i p q. absurd (omega arith) }

  -- the i-th row offers too
  best_more : (i a o : ℕ) → f.window.from ≤ i → floor_of f i < mark → Best us caps f i a o
      → Best us caps f (i + 1) a (offer_to us caps (row_at f i) (need_at f i) (floor_of f i) a o)
  unfolding offer_to
  best_more i a o from low h = go (holds_row us a (row_at f i)) refl (dec_lt (get_or caps a 0) (need_at f i))
    where
      still : (OffersTo us caps f a i → ⊥) → Best us caps f (i + 1) a o
      still not =
          record {
            marked = h.marked;
            taken = λ l. let x = h.taken l in record { index = x.index; begin = x.begin; below = omega (arith, x.below); offers = x.offers; floor_is = x.floor_is };
            least = λ k p q t. at k p q t (ℕ_discrete k i);
          }
        where
          at : (k : ℕ) → f.window.from ≤ k → k < i + 1 → OffersTo us caps f a k → Dec (k ≡ i) → o ≤ floor_of f k
          at k p q t (yes z) = absurd (not (rw (← z) t))
          at k p q t (no z) = h.least k p (omega arith) t

      go : (t : Bool) → holds_row us a (row_at f i) ≡ t → Dec (get_or caps a 0 < need_at f i)
          → Best us caps f (i + 1) a (cond (t && leb (need_at f i) (get_or caps a 0)) (min (floor_of f i) o) o)
      go false e d = still (λ x. rw e at x.held)
      go true e (yes l) = rw (lt-leb (need_at f i) (get_or caps a 0) l) (still (λ x. omega (arith, x.pays)))
      go true e (no m) = rw (le-leb (need_at f i) (get_or caps a 0) (omega arith)) (record { marked = omega (arith, h.marked); taken = λ l. first l (dec_lt o (floor_of f i)); least = λ k p q t. at k p q t (ℕ_discrete k i) })
        where
          first : min (floor_of f i) o < mark → Dec (o < floor_of f i) → Taken us caps f (i + 1) a (min (floor_of f i) o)
          first l (yes c) =
              let x = h.taken (omega arith) in
              record { index = x.index; begin = x.begin; below = omega (arith, x.below); offers = x.offers; floor_is = omega (arith, x.floor_is) }
          first l (no c) = record { index = i; begin = from; below = omega arith; offers = record { held = rw e tt; pays = omega arith }; floor_is = omega arith }

          at : (k : ℕ) → f.window.from ≤ k → k < i + 1 → OffersTo us caps f a k → Dec (k ≡ i) → min (floor_of f i) o ≤ floor_of f k
          at k p q t (yes z) = rw z (omega arith)
          at k p q t (no z) = omega (arith, h.least k p (omega arith) t)

  pub offered_more : {i b need floor : ℕ} {next next' : List ℕ} → f.window.from ≤ i → floor_of f i < mark → b ≡ row_at f i → need ≡ need_at f i → floor ≡ floor_of f i
      → Offered us caps f i next → Offers (offer_to us caps b need floor) (rows_of us) next next' → Offered us caps f (i + 1) next'
  offered_more {i} {b} {need} {floor} {next} {next'} from low e g k h o a l =
      rw (o.offer_is a l, e, g, k) (best_more i a (get_or next a 0) from low (h a l))
