-- The count of steps: after each step the arrays say what each row needs with so many steps. A row that is reached needs its floor with one step
-- more, so only the rows reached in the last two steps offer something new, and only rows that are not reached take it. Assumes nothing.
use mathlib.Core.Path.{◌≡◌, refl, sym, ap, ◌∙◌}
use mathlib.Core.Bool.{Bool, true, false}
use Rattle.std.proofs.Common.{Some, None}
use Rattle.std.proofs.lemmas.Bool.{leb-false}
use Rattle.std.proofs.lemmas.Option.{cond_some, none-some}
use mathlib.Core.Logic.{◌⊎◌, ⊎_elim, inl, inr}
use mathlib.Core.List.{List}
use Prim.Native.Nat.{ℕ, suc, ◌+◌, ◌-◌, ◌≤◌, ◌<◌}
use native.Mathlib.Decide.{ℕ_discrete, dec_lt}
use native.Mathlib.Numerals.{add-one}
use native.Mathlib.Omega.{arith}
use borrow.Author.Tests.{eq-eqb, ne_eqb, lt-ltb, le-ltb, le-leb, lt-leb, leb-true}
use lib.Dec.{T, leb, leb→le, le→leb}
use lib.ListN.{length, get_or, set, length-set, replicate, length-replicate, get_or-replicate}
use lib.Seq.{get_or-set_same, get_or-set_other}
use Rattle.grid.specs.Rows.{rows_of}
use Rattle.exchange.specs.Work.{Work}
use Rattle.exchange.specs.Search.{follows, least_floor, need, count}
use Rattle.exchange.proofs.TablePlan.Count.{count_is, settled_none}
use Rattle.exchange.proofs.TableLaws.{row_start}
use Rattle.exchange.proofs.TablePlan.Floor.{IsLeast, floor_is_least}
use Rattle.exchange.proofs.TablePlan.Need.{follows↔, need_le, need_own, need_paid, need_never_rises}
use Rattle.search.specs.Layers.{mark, never, rows_work, Searchable, Front, front, row_at, floor_of, need_at, Best, Kept, Same, New, CanStep, Stepped, Arrival, Begun, need_read, Says, steps_found, Counted}
use Rattle.search.specs.declared.Terms.{Terms}
use Rattle.search.specs.declared.layers.Window.{Window}
use Rattle.search.specs.declared.notes.Notes.{Notes}
use Rattle.search.proofs.ReadLaws.{read_before, read_then, read_after}
use Rattle.search.proofs.ListLaws.{below_le, below_none, below_more}

-- ---- the number of steps, if there is one

module _ (w : Work) (most : ℕ) where
  steps_some : {n : ℕ} → n ≡ count w mark most → n ≤ most → Some n ≡ steps_found w most
  steps_some {n} e l = rw (← e, le-leb n most l)

  steps_none : most < count w mark most → None ≡ steps_found w most
  steps_none l = rw (lt-leb (count w mark most) most l)

  pub some_steps : {n : ℕ} → Some n ≡ steps_found w most → (n ≡ count w mark most) × (n ≤ most)
  some_steps {n} e =
      let x = cond_some (leb (count w mark most) most) (count w mark most) n (sym e) in
      (sym x.1, omega (arith, leb-true (count w mark most) most x.0, x.1))

  pub none_steps : None ≡ steps_found w most → most < count w mark most
  none_steps e = go (leb (count w mark most) most) refl
    where
      go : (x : Bool) → leb (count w mark most) most ≡ x → most < count w mark most
      go true q = absurd (none-some (count w mark most) (e ∙ rw q))
      go false q = leb-false (count w mark most) most q

module _ (w : Work) (most : ℕ) where
  counted_at : (j : ℕ) → 0 < j → j ≤ most → need w mark j 0 ≤ 0 → ((i : ℕ) → i < j → 0 < need w mark i 0) → j ≡ count w mark most
  counted_at j p h e none = go (dec_lt (count w mark most) j)
    where
      go : Dec (count w mark most < j) → j ≡ count w mark most
      go (yes l) = absurd (omega (arith, none (count w mark most) l, leb→le (need w mark (count w mark most) 0) 0 ((count_is w mark most).passes (omega arith))))
      go (no n) = omega (arith, (count_is w mark most).least j p (le→leb _ _ e))

  counted_none : ((i : ℕ) → i ≤ most → 0 < need w mark i 0) → most + 1 ≡ count w mark most
  counted_none none = go (dec_lt (count w mark most) (most + 1))
    where
      go : Dec (count w mark most < most + 1) → most + 1 ≡ count w mark most
      go (yes l) = absurd (omega (arith, none (count w mark most) (omega arith), leb→le (need w mark (count w mark most) 0) 0 ((count_is w mark most).passes (omega arith))))
      go (no n) = omega (arith, (count_is w mark most).within)

-- ---- the count

-- an array with v at one place
module _ (x p v : ℕ) (h : p < 128) where
  one_there : get_or (set (replicate 128 x) p v) p 0 ≡ v
  one_there = get_or-set_same (replicate 128 x) p v 0 (omega (arith, length-replicate {A = ℕ} 128 x))

  one_other : (a : ℕ) → a < 128 → (a ≡ p → ⊥) → get_or (set (replicate 128 x) p v) a 0 ≡ x
  one_other a l n = get_or-set_other (replicate 128 x) p a v 0 n ∙ get_or-replicate 128 a x 0 l

  one_long : length (set (replicate 128 x) p v) ≡ 128
  one_long = length-set (replicate 128 x) p v ∙ length-replicate {A = ℕ} 128 x

-- a row that is not yet reached, and one that is: its step has passed
pub record Row (w : Work) (reached : List ℕ) (j a : ℕ) : Type 0 where
  pub waits : mark ≤ need w mark j a → get_or reached a 0 ≡ never
  pub passed : need w mark j a < mark → get_or reached a 0 ≤ j

-- row a stands in the window
pub record InWindow (r : Notes) (v : Window) (a : ℕ) : Type 0 where
  pub index : ℕ
  pub begin : v.from ≤ index
  pub below : index < v.end
  pub entry : get_or r.found index 0 ≡ a

-- so many steps are searched, and the start still needs a payment: the window has the rows that were reached in the last step and in the one before
pub record Counting (w : Work) (floors : List ℕ) (r : Notes) (v : Window) : Type 0 where
  pub kept : Kept r v.end
  pub order : v.from ≤ v.fresh
  pub order_end : v.fresh ≤ v.end
  pub in_rows : (i : ℕ) → i < v.end → get_or r.found i 0 ≤ w.last
  pub at_last : (i : ℕ) → v.fresh ≤ i → i < v.end → get_or r.reached (get_or r.found i 0) 0 ≡ v.step
  pub before : (i : ℕ) → v.from ≤ i → i < v.fresh → get_or r.reached (get_or r.found i 0) 0 < v.step
  pub lists : (a : ℕ) → a ≤ w.last → v.step ≤ get_or r.reached a 0 + 1 → get_or r.reached a 0 ≤ v.step → InWindow r v a
  pub row : (a : ℕ) → a ≤ w.last → Row w r.reached v.step a
  pub says : Says w r.reached r.firsts floors v.step
  pub unfinished : (i : ℕ) → i ≤ v.step → 0 < need w mark i 0

-- the same of every table whose search has begun so
pub record Progress (us held caps floors list : List ℕ) (r₀ r : Notes) (v : Window) : Type 0 where
  pub list_long : length list ≡ 129
  pub counting : (t : Terms) → Searchable t us held caps floors → Begun t r₀ → Counting (rows_work t us caps floors) floors r v

module _ {t : Terms} {us held caps floors : List ℕ} (g : Searchable t us held caps floors) where
  abbrev w : Work
  w = rows_work t us caps floors

  few : w.last < 128
  few = omega (arith, g.good.few, g.good.some)

  all : suc w.last ≡ rows_of us
  all = omega (arith, g.good.rows_are, g.good.some)

  pub counting_start : {r : Notes} → Begun t r → Counting w floors r (record { step = 0; from = 0; fresh = 0; end = 1 })
  unfolding need
  counting_start {r} b =
      record {
        kept =
            record {
              reached_long = rw b.reached_are (one_long never w.last 0 few);
              firsts_long = rw b.firsts_are (one_long mark w.last w.price few);
              found_long = rw b.found_are (one_long 0 0 w.last (omega arith));
              counted =
                  rw b.reached_are
                  (sym
                  (below_more never (replicate 128 never) w.last 0 (omega (arith, few, length-replicate {A = ℕ} 128 never)) (omega arith)
                  (rw (get_or-replicate 128 w.last never 0 few) (omega arith)) 128 few
                  ∙ ap suc (below_none never (replicate 128 never) 128 (λ a l. rw (get_or-replicate 128 a never 0 l) (omega arith)))));
            };
        order = omega arith;
        order_end = omega arith;
        in_rows = λ i l. let z : i ≡ 0 = omega arith in rw (z, found_first) (omega arith);
        at_last = λ i k l. let z : i ≡ 0 = omega arith in rw (z, found_first) step_last;
        before = λ i k l. absurd (omega arith);
        lists = λ a l k m. only a l m (ℕ_discrete a w.last);
        row = λ a l. row a l (ℕ_discrete a w.last);
        says = λ i a k l. says i a (omega arith) l (ℕ_discrete a w.last);
        unfinished = λ i h. first i (omega arith);
      }
    where
      found_first : get_or r.found 0 0 ≡ w.last
      found_first = rw b.found_are (one_there 0 0 w.last (omega arith))

      step_last : get_or r.reached w.last 0 ≡ 0
      step_last = rw b.reached_are (one_there never w.last 0 few)

      step_other : (a : ℕ) → a ≤ w.last → (a ≡ w.last → ⊥) → get_or r.reached a 0 ≡ never
      step_other a l n = rw b.reached_are (one_other never w.last 0 few a (omega (arith, few)) n)

      only : (a : ℕ) → a ≤ w.last → get_or r.reached a 0 ≤ 0 → Dec (a ≡ w.last) → InWindow r (record { step = 0; from = 0; fresh = 0; end = 1 }) a
      only a l m (yes q) = record { index = 0; begin = omega arith; below = omega arith; entry = found_first ∙ sym q }
      only a l m (no n) = absurd (omega (arith, step_other a l n))

      row : (a : ℕ) → a ≤ w.last → Dec (a ≡ w.last) → Row w r.reached 0 a
      row a l (yes q) =
          record {
            waits = λ m. absurd (omega (arith, rw (eq-eqb a w.last q) at m, g.high));
            passed = λ _. rw q (omega (arith, step_last));
          }
      row a l (no n) =
          record { waits = λ _. step_other a l n; passed = λ m. absurd (omega (arith, rw (ne_eqb a w.last n) at m)) }

      says : (i a : ℕ) → i ≡ 0 → a ≤ w.last → Dec (a ≡ w.last) → need_read r.reached r.firsts floors i a ≡ need w mark i a
      says i a z l (yes q) =
          rw (z, eq-eqb a w.last q)
          (read_then r.reached r.firsts floors 0 a (sym (rw q step_last)) ∙ rw (q, b.firsts_are) (one_there mark w.last w.price few))
      says i a z l (no n) =
          let late : 0 < get_or r.reached a 0 = omega (arith, step_other a l n) in
          rw (z, ne_eqb a w.last n) (read_before r.reached r.firsts floors 0 a late)

      first : (i : ℕ) → i ≡ 0 → 0 < need w mark i 0
      first i e = rw (e, ne_eqb 0 w.last (λ q. omega (arith, g.good.some))) (omega arith)

  module _ {r : Notes} {v : Window} (h : Counting w floors r v) where
    abbrev j : ℕ
    j = v.step

    abbrev f : Front
    f = front floors r v

    pub end_few : v.end ≤ 128
    end_few = omega (arith, h.kept.counted, below_le never r.reached 128)

    pub found_few : (i : ℕ) → i < v.end → get_or r.found i 0 < 128
    found_few i l = omega (arith, h.in_rows i l, few)

    pub counting_none : (most : ℕ) → most ≤ j → Counted w most r.reached r.firsts floors None
    counting_none most l =
        record {
          count_is = steps_none w most (omega (arith, counted_none w most (λ i k. h.unfinished i (omega arith))));
          reached_long = h.kept.reached_long;
          firsts_long = h.kept.firsts_long;
          reaches = λ n q. absurd (none-some n q);
        }

    -- what a row needs with one step more than it was reached in, or with more
    own : (i a : ℕ) → i ≤ j → a ≤ w.last → get_or r.reached a 0 < i → need w mark i a ≡ w.floor a
    own i a k l m = sym (h.says i a k l) ∙ read_after r.reached r.firsts floors i a m

    module _ (early : j < never) where
      -- a row that is reached has a sum, and one that is not has none
      has_sum : (a : ℕ) → a ≤ w.last → get_or r.reached a 0 < never → (need w mark j a < mark) × (get_or r.reached a 0 ≤ j)
      has_sum a l m = go (dec_lt (need w mark j a) mark)
        where
          go : Dec (need w mark j a < mark) → (need w mark j a < mark) × (get_or r.reached a 0 ≤ j)
          go (yes k) = (k, (h.row a l).passed k)
          go (no k) = absurd (omega (arith, (h.row a l).waits (omega arith)))

      no_sum : (a : ℕ) → a ≤ w.last → never ≤ get_or r.reached a 0 → need w mark j a ≡ mark
      no_sum a l m = sym (h.says j a (omega arith) l) ∙ read_before r.reached r.firsts floors j a (omega arith)

      -- the rows of the window need what they say
      window_step : (i : ℕ) → v.from ≤ i → i < v.end → get_or r.reached (row_at f i) 0 ≤ j
      window_step i k l = go (dec_lt i v.fresh)
        where
          go : Dec (i < v.fresh) → get_or r.reached (row_at f i) 0 ≤ j
          go (yes m) = omega (arith, h.before i k m)
          go (no m) = omega (arith, h.at_last i (omega arith) l)

      needs_are : (i : ℕ) → v.from ≤ i → i < v.end → need_at f i ≡ need w mark j (row_at f i)
      needs_are i k l = go (dec_lt i v.fresh)
        where
          go : Dec (i < v.fresh) → need_at f i ≡ need w mark j (row_at f i)
          go (yes m) = rw (lt-ltb i v.fresh m) (sym (own j (row_at f i) (omega arith) (h.in_rows i l) (h.before i k m)))
          go (no m) =
              rw (le-ltb i v.fresh (omega arith))
              (sym (read_then r.reached r.firsts floors j (row_at f i) (sym (h.at_last i (omega arith) l))) ∙ h.says j (row_at f i) (omega arith) (h.in_rows i l))

      pub can_step : {list : List ℕ} → j + 1 < never → length list ≡ 129 → CanStep us caps floors list r v
      can_step later long =
          record {
            offerers =
                record {
                  few = end_few;
                  order = omega (arith, h.order, h.order_end);
                  in_rows = λ i l. omega (arith, h.in_rows i l, all);
                  pays = λ i k l.
                      omega (arith, needs_are i k l, need_paid w mark g.lawful g.high j (row_at f i) (h.in_rows i l) (sum i k l));
                  low = low;
                };
            kept = h.kept;
            list_long = long;
            early = later;
          }
        where
          sum : (i : ℕ) → v.from ≤ i → i < v.end → need w mark j (row_at f i) < mark
          sum i k l = (has_sum (row_at f i) (h.in_rows i l) (omega (arith, window_step i k l))).0

          low : (i : ℕ) → v.from ≤ i → i < v.end → floor_of f i < mark
          low i k l =
              let b : ℕ = row_at f i in
              omega
              (arith, need_own w mark g.lawful g.high j b (h.in_rows i l) (sum i k l), need_never_rises w mark g.lawful j (suc j) b (omega arith), sum i k l)

      -- a row that can follow another stands in the window, or it could before
      complete : (a b : ℕ) → a ≤ w.last → b ≤ w.last → T (w.holds a b) → need w mark j b ≤ w.cap a → (need w mark j a ≤ w.floor b) ⊎ InWindow r v b
      complete a b la lb t p = go (dec_lt (get_or r.reached b 0 + 1) j)
        where
          step : get_or r.reached b 0 ≤ j
          step = (h.row b lb).passed (omega (arith, g.lawful.cap_price a, g.high))

          go : Dec (get_or r.reached b 0 + 1 < j) → (need w mark j a ≤ w.floor b) ⊎ InWindow r v b
          go (no m) = inr (h.lists b lb (omega arith) step)
          go (yes m) =
              let e : suc (j - 1) ≡ j = omega arith in
              let x : need w mark (j - 1) b ≤ w.cap a =
              omega (arith, own (j - 1) b (omega arith) lb (omega arith), own j b (omega arith) lb (omega arith)) in
              inl (rw e at (need_le w mark (j - 1) a b lb t x))

      -- a row of the window ends the search: these are the fewest steps
      pub counting_found : (most : ℕ) → Arrival caps f v.end → j < most → {n : ℕ} → j + 1 ≡ n → Counted w most r.reached r.firsts floors (Some n)
      counting_found most x l {n} e =
          let next : n ≡ suc j = omega arith in
          rw next
          (record {
            count_is = steps_some w most (counted_at w most (suc j) (omega arith) l enough (λ i k. h.unfinished i (omega arith))) l;
            reached_long = h.kept.reached_long;
            firsts_long = h.kept.firsts_long;
            reaches = λ k q. let z : suc j ≡ k = cc in rw (← z) (record { says = λ i a q l. h.says i a (omega arith) l; enough = enough });
          })
        where
          in_deal : row_at f x.index ≤ w.last
          in_deal = h.in_rows x.index x.below

          enough : need w mark (suc j) 0 ≤ 0
          enough =
              omega
              (arith, need_le w mark j 0 (row_at f x.index) in_deal (row_start us (row_at f x.index)) (omega (arith, x.affords, needs_are x.index x.begin x.below)), x.free)

      -- no row of the window ends it: the start needs a payment also with one step more
      unfinished_next : (Arrival caps f v.end → ⊥) → 0 < need w mark (suc j) 0
      unfolding need
      unfinished_next none = go (dec_lt 0 (least_floor w mark (need w mark j) 0 (suc w.last)))
        where
          go : Dec (0 < least_floor w mark (need w mark j) 0 (suc w.last)) → 0 < least_floor w mark (need w mark j) 0 (suc w.last)
          go (yes l) = l
          go (no m) =
              let x = (floor_is_least w mark (need w mark j) 0 (suc w.last)).attained (omega arith) in
              let y = (follows↔ w (need w mark j) 0 x.row).0 x.follow in
              let free : w.floor x.row ≡ 0 = omega (arith, x.floor_is) in
              ⊎_elim (λ (q : need w mark j 0 ≤ w.floor x.row). absurd (omega (arith, free, h.unfinished j (omega arith))))
              (λ (z : InWindow r v x.row).
              absurd
              (none
              (record {
                index = z.index;
                begin = z.begin;
                below = z.below;
                affords = omega (arith, needs_are z.index z.begin z.below, ap (need w mark j) z.entry, y.affords);
                free = rw z.entry free;
              })))
              (complete 0 x.row (omega arith) (omega (arith, x.below)) y.delivers y.affords)

      -- the best offer of a row that is not reached is what it needs with one step more
      best_need : (a o : ℕ) → a ≤ w.last → never ≤ get_or r.reached a 0 → Best us caps f v.end a o → o ≡ need w mark (suc j) a
      unfolding need
      best_need a o l m b = go (dec_lt (least_floor w mark (need w mark j) a (suc w.last)) mark) (dec_lt o mark)
        where
          least : IsLeast w mark (need w mark j) a (suc w.last) (least_floor w mark (need w mark j) a (suc w.last))
          least = floor_is_least w mark (need w mark j) a (suc w.last)

          above : o < mark → least_floor w mark (need w mark j) a (suc w.last) ≤ o
          above k =
              let x = b.taken k in
              let y = h.in_rows x.index x.below in
              let z : T (follows w (need w mark j) a (row_at f x.index)) =
              (follows↔ w (need w mark j) a (row_at f x.index)).1
              (record { delivers = x.offers.held; affords = omega (arith, needs_are x.index x.begin x.below, x.offers.pays) }) in
              omega (arith, least.least (row_at f x.index) (omega arith) z, x.floor_is)

          under : least_floor w mark (need w mark j) a (suc w.last) < mark → o ≤ least_floor w mark (need w mark j) a (suc w.last)
          under k =
              let x = least.attained k in
              let y = (follows↔ w (need w mark j) a x.row).0 x.follow in
              ⊎_elim (λ (q : need w mark j a ≤ w.floor x.row). absurd (omega (arith, no_sum a l m, x.floor_is, k)))
              (λ (z : InWindow r v x.row).
              omega
              (arith, b.least z.index z.begin z.below (record { held = rw z.entry y.delivers; pays = omega (arith, needs_are z.index z.begin z.below, ap (need w mark j) z.entry, y.affords) }), x.floor_is, ap w.floor z.entry))
              (complete a x.row l (omega (arith, x.below)) y.delivers y.affords)

          go : Dec (least_floor w mark (need w mark j) a (suc w.last) < mark) → Dec (o < mark) → o ≡ least_floor w mark (need w mark j) a (suc w.last)
          go (yes p) (yes q) = omega (arith, above q, under p)
          go (yes p) (no q) = omega (arith, under p)
          go (no p) (yes q) = omega (arith, above q)
          go (no p) (no q) = omega (arith, least.marked, b.marked)

      module _ {r' : Notes} {v' : Window} (step : Stepped us caps f r.reached r' v') where
        abbrev m : ℕ
        m = v'.end

        -- a row that was reached needs its floor now
        settled : (a : ℕ) → a ≤ w.last → get_or r.reached a 0 < never → need w mark (suc j) a ≡ w.floor a
        settled a l k = need_own w mark g.lawful g.high j a l (has_sum a l k).0

        -- and the others what they are offered
        offer_need : (a : ℕ) → a ≤ w.last → never ≤ get_or r.reached a 0 → get_or step.next a 0 ≡ need w mark (suc j) a
        offer_need a l k = best_need a (get_or step.next a 0) l k (step.offered a (omega (arith, all)))

        -- no row was reached in the last step and none is in this one: no more steps change a need
        pub counting_settled : (most : ℕ) → v'.from ≡ m → Counted w most r'.reached r'.firsts floors None
        counting_settled most still =
            record {
              count_is =
                  steps_none w most (omega (arith, settled_none w mark most g.lawful j (λ a l. same a l (dec_lt (get_or r.reached a 0) never)) (h.unfinished j (omega arith)), (count_is w mark most).within));
              reached_long = step.noted.grown.kept.reached_long;
              firsts_long = step.noted.grown.kept.firsts_long;
              reaches = λ n q. absurd (none-some n q);
            }
          where
            z : v.fresh ≡ m
            z = sym (ap (λ (x : Window). x.from) step.moved) ∙ still

            earlier : (a : ℕ) → a ≤ w.last → get_or r.reached a 0 ≤ j → get_or r.reached a 0 < j
            earlier a l k = go (dec_lt (get_or r.reached a 0) j)
              where
                go : Dec (get_or r.reached a 0 < j) → get_or r.reached a 0 < j
                go (yes y) = y
                go (no y) =
                    let x = h.lists a l (omega arith) k in
                    let early : x.index < v.fresh = omega (arith, x.below, step.noted.grown.more, z) in
                    rw x.entry at (h.before x.index x.begin early)

            same : (a : ℕ) → a ≤ w.last → Dec (get_or r.reached a 0 < never) → need w mark (suc j) a ≡ need w mark j a
            same a l (yes k) = settled a l k ∙ sym (own j a (omega arith) l (earlier a l (has_sum a l k).1))
            same a l (no k) = go (dec_lt (get_or step.next a 0) mark)
              where
                go : Dec (get_or step.next a 0 < mark) → need w mark (suc j) a ≡ need w mark j a
                go (yes o) =
                    let x = step.noted.new a (omega (arith, all)) (omega arith) o in
                    absurd (omega (arith, x.begin, x.below, h.order_end, z))
                go (no o) =
                    omega (arith, offer_need a l (omega arith), no_sum a l (omega arith), (step.offered a (omega (arith, all))).marked)

        -- what the notes say of a row
        record Known (a : ℕ) : Type 0 where
          row : Row w r'.reached (suc j) a
          says : (i : ℕ) → i ≤ suc j → need_read r'.reached r'.firsts floors i a ≡ need w mark i a

        -- as long as a row's notes are the same they say the same
        says_same : (a i : ℕ) → a ≤ w.last → i ≤ j → Same r r' a → need_read r'.reached r'.firsts floors i a ≡ need w mark i a
        says_same a i l k s = rw (s.step_same, s.first_same) (h.says i a k l)

        module _ (later : j + 1 < never) (a : ℕ) (l : a ≤ w.last) where
          had : get_or r.reached a 0 < never → Known a
          had k =
              record {
                row =
                    record {
                      waits = λ q. absurd (omega (arith, need_never_rises w mark g.lawful j (suc j) a (omega arith), x.0));
                      passed = λ _. omega (arith, s.step_same, x.1);
                    };
                says = λ i c. go i c (ℕ_discrete i (suc j));
              }
            where
              s : Same r r' a
              s = step.noted.grown.had a k

              x : (need w mark j a < mark) × (get_or r.reached a 0 ≤ j)
              x = has_sum a l k

              go : (i : ℕ) → i ≤ suc j → Dec (i ≡ suc j) → need_read r'.reached r'.firsts floors i a ≡ need w mark i a
              go i c (yes q) = rw q (read_after r'.reached r'.firsts floors (suc j) a (omega (arith, s.step_same, x.1)) ∙ sym (settled a l k))
              go i c (no q) = says_same a i l (omega arith) s

          first : never ≤ get_or r.reached a 0 → get_or step.next a 0 < mark → Known a
          first k o =
              record {
                row = record { waits = λ q. absurd (omega (arith, offer_need a l k)); passed = λ _. omega (arith, x.step_is) };
                says = λ i c. go i c (ℕ_discrete i (suc j));
              }
            where
              x : New step.next (j + 1) v.end r' m a
              x = step.noted.new a (omega (arith, all)) k o

              go : (i : ℕ) → i ≤ suc j → Dec (i ≡ suc j) → need_read r'.reached r'.firsts floors i a ≡ need w mark i a
              go i c (yes q) = rw q (read_then r'.reached r'.firsts floors (suc j) a (omega (arith, x.step_is)) ∙ x.first_is ∙ offer_need a l k)
              go i c (no q) =
                  read_before r'.reached r'.firsts floors i a (omega (arith, x.step_is))
                  ∙ sym (read_before r.reached r.firsts floors i a (omega arith)) ∙ h.says i a (omega arith) l

          waiting : never ≤ get_or r.reached a 0 → mark ≤ get_or step.next a 0 → get_or r.reached a 0 ≡ never → Known a
          waiting k o e =
              record {
                row = record { waits = λ _. s.step_same ∙ e; passed = λ q. absurd (omega (arith, offer_need a l k)) };
                says = λ i c. go i c (ℕ_discrete i (suc j));
              }
            where
              s : Same r r' a
              s = step.noted.waits a (omega (arith, all)) k o

              go : (i : ℕ) → i ≤ suc j → Dec (i ≡ suc j) → need_read r'.reached r'.firsts floors i a ≡ need w mark i a
              go i c (yes q) =
                  let top : mark ≡ get_or step.next a 0 = omega (arith, (step.offered a (omega (arith, all))).marked) in
                  rw q (read_before r'.reached r'.firsts floors (suc j) a (omega (arith, s.step_same, e)) ∙ top ∙ offer_need a l k)
              go i c (no q) = says_same a i l (omega arith) s

          known : Known a
          known = go (dec_lt (get_or r.reached a 0) never) (dec_lt (get_or step.next a 0) mark)
            where
              go : Dec (get_or r.reached a 0 < never) → Dec (get_or step.next a 0 < mark) → Known a
              go (yes k) d = had k
              go (no k) (yes o) = first (omega arith) o
              go (no k) (no o) = waiting (omega arith) (omega arith) ((h.row a l).waits (omega (arith, no_sum a l (omega arith))))

        pub counting_next : j + 1 < never → (Arrival caps f v.end → ⊥) → Counting w floors r' v'
        counting_next later none =
            rw (step.moved, add-one)
            (record {
              kept = step.noted.grown.kept;
              order = h.order_end;
              order_end = step.noted.grown.more;
              in_rows = λ i l. in_rows i l (dec_lt i v.end);
              at_last = λ i k l. (step.noted.found_new i k l).1 ∙ add-one j;
              before = before;
              lists = λ a l k o. lists a l k o (dec_lt (get_or r.reached a 0) never);
              row = λ a l. (known later a l).row;
              says = λ i a k l. (known later a l).says i k;
              unfinished = λ i l. go i l (ℕ_discrete i (suc j));
            })
          where
            in_rows : (i : ℕ) → i < m → Dec (i < v.end) → get_or r'.found i 0 ≤ w.last
            in_rows i l (yes k) = rw (step.noted.grown.found_kept i k) (h.in_rows i k)
            in_rows i l (no k) = omega (arith, (step.noted.found_new i (omega arith) l).0, all)

            -- a row of the last step keeps its notes
            before : (i : ℕ) → v.fresh ≤ i → i < v.end → get_or r'.reached (get_or r'.found i 0) 0 < suc j
            before i k l =
                let e = h.at_last i k l in
                rw (step.noted.grown.found_kept i l) (omega (arith, (step.noted.grown.had (get_or r.found i 0) (omega (arith, e))).step_same, e))

            lists : (a : ℕ) → a ≤ w.last → suc j ≤ get_or r'.reached a 0 + 1 → get_or r'.reached a 0 ≤ suc j → Dec (get_or r.reached a 0 < never)
                → InWindow r' (record { step = suc j; from = v.fresh; fresh = v.end; end = m }) a
            lists a l k o (yes y) =
                let s = (step.noted.grown.had a y).step_same in
                let x = h.lists a l (omega (arith, s)) (has_sum a l y).1 in
                record {
                  index = x.index;
                  begin = late x (dec_lt x.index v.fresh) (omega (arith, s));
                  below = omega (arith, x.below, step.noted.grown.more);
                  entry = step.noted.grown.found_kept x.index x.below ∙ x.entry;
                }
              where
                late : (x : InWindow r v a) → Dec (x.index < v.fresh) → j ≤ get_or r.reached a 0 → v.fresh ≤ x.index
                late x (yes q) k = absurd (omega (arith, rw x.entry at (h.before x.index x.begin q)))
                late x (no q) k = omega arith
            lists a l k o (no y) = go (dec_lt (get_or step.next a 0) mark)
              where
                go : Dec (get_or step.next a 0 < mark) → InWindow r' (record { step = suc j; from = v.fresh; fresh = v.end; end = m }) a
                go (yes q) =
                    let x = step.noted.new a (omega (arith, all)) (omega arith) q in
                    record { index = x.index; begin = omega (arith, x.begin, h.order_end); below = x.below; entry = x.entry }
                go (no q) = absurd (omega (arith, (step.noted.waits a (omega (arith, all)) (omega arith) (omega arith)).step_same))

            go : (i : ℕ) → i ≤ suc j → Dec (i ≡ suc j) → 0 < need w mark i 0
            go i l (yes q) = rw q (unfinished_next none)
            go i l (no k) = h.unfinished i (omega arith)
