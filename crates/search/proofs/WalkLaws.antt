-- The plan read forwards. Assumes nothing.
use Rattle.std.proofs.Common.{Option, Some, None, IsSome, rules}
use mathlib.Core.Path.{◌≡◌, refl, sym, ap, subst, ◌∙◌}
use mathlib.Core.Bool.{Bool, true, false, ◌&&◌}
use mathlib.Core.List.{List, [], ◌∷◌, ◌++◌, map, append-nil, append_assoc}
use Prim.Native.Nat.{ℕ, zero, suc, ◌+◌, ◌-◌, ◌≤◌, ◌<◌}
use native.Mathlib.Nat.{add-zero, zero-add}
use native.Mathlib.Numerals.{add-one}
use native.Mathlib.Omega.{arith}
use lib.Dec.{leb}
use lib.ListN.{length, get_or}
use lib.Seq.{take-suc-set}
use Rattle.area.specs.Entries.{entries, Stored}
use Rattle.area.proofs.FilledLaws.{entries_same}
use Rattle.exchange.specs.Deal.{State, start}
use Rattle.exchange.specs.Work.{Work, Lawful, WorkSteps}
use Rattle.exchange.specs.Forms.{holds_row}
use Rattle.exchange.specs.Search.{need, fits, first_of, forward, forwards}
use Rattle.exchange.proofs.GivenOrder.Run.{state_eq}
use Rattle.exchange.proofs.TablePlan.Forward.{forwards_steps}
use Rattle.held.specs.Words.{holds_word}
use Rattle.held.proofs.WordLaws.{held_word}
use Rattle.search.specs.declared.Terms.{Terms}
use Rattle.search.specs.Layers.{mark, rows_work, Searchable, need_read, delivers, first_row, IsFirst, Written, Walked, CanWalk}
use Rattle.search.proofs.LimitLaws.{not_held}
use Rattle.search.proofs.AlikeLaws.{first_ext}

-- ---- the first row that passes

-- numbers that do not pass may be left out
first_skip : (f : ℕ → Bool) (i c k : ℕ) → ((b : ℕ) → i ≤ b → b < i + c → f b ≡ false) → first_of f i (c + k) ≡ first_of f (i + c) k
unfolding first_of
first_skip f i zero k h = rw (add-zero i, zero-add k)
first_skip f i (suc c) k h =
    let d : suc c + k ≡ suc (c + k) = omega arith in
    let e : i + suc c ≡ suc i + c = omega arith in
    rw (d, h i (omega arith) (omega arith), e) (first_skip f (suc i) c k (λ b l m. h b (omega arith) (omega arith)))

-- the rows from a to b are passed over
pub record Looking (held floors : List ℕ) (needs : ℕ → ℕ) (cap a paid rows b : ℕ) : Type 0 where
  pub within : b ≤ rows
  pub same : first_row held floors needs cap a paid rows b ≡ first_row held floors needs cap a paid rows a

module _ {held floors : List ℕ} {needs : ℕ → ℕ} {cap a paid rows b : ℕ} (l : Looking held floors needs cap a paid rows b) where
  pub looking_none : rows ≤ b → rows ≡ first_row held floors needs cap a paid rows a
  unfolding first_row first_of
  looking_none h =
      let z : rows - b ≡ 0 = omega arith in
      let e : b ≡ rows = omega (arith, l.within) in
      sym e ∙ (rw z at l.same)

  module _ (need : ℕ) (r : Bool) (more : b < rows) (n : need ≡ needs b)
      (e : r ≡ (holds_word 4 (get_or held a 0) (get_or held b 0) && leb need cap && leb (get_or floors b 0) paid)) where
    one : rows - b ≡ suc (rows - (b + 1))
    one = omega arith

    tested : r ≡ delivers held floors needs cap a paid b
    tested = rw (← n) e

    pub looking_found : r ≡ true → b ≡ first_row held floors needs cap a paid rows a
    unfolding first_row first_of
    looking_found t = sym (rw (one, ← tested, t)) ∙ l.same

    pub looking_next : r ≡ false → Looking held floors needs cap a paid rows (b + 1)
    unfolding first_row first_of
    looking_next t = record { within = omega arith; same = sym (rw (one, ← tested, t, add-one)) ∙ l.same }

-- ---- the walk

-- k steps are written, and the others follow from row a with this sum paid
pub record Walking (w : Work) (steps : ℕ) (places₀ places sums₀ sums : List ℕ) (left k a paid : ℕ) : Type 0 where
  pub front : List State
  pub whole : front ++ forwards w mark left (record { place = a; paid = paid }) ≡ forwards w mark steps start
  pub in_deal : a ≤ w.last
  pub on : WorkSteps w (record { place = a; paid = paid }) (forwards w mark left (record { place = a; paid = paid }))
  pub places_are : Written 2 (map (λ s. s.place) front) places₀ places k
  pub sums_are : Written 4 (map (λ s. s.paid) front) sums₀ sums k

pub written_none : (w : ℕ) (area : List ℕ) → Written w [] area area 0
written_none w area = record { front = refl; remainder_kept = refl; length_kept = refl }

map_snoc : (f : State → ℕ) (xs : List State) (s : State) → map f (xs ++ s ∷ []) ≡ map f xs ++ f s ∷ []
map_snoc f [] s = refl
map_snoc f (x ∷ xs) s = ap (λ (l : List ℕ). f x ∷ l) (map_snoc f xs s)

written_more : (w : ℕ) (f : State → ℕ) (xs : List State) (s : State) (before now after : List ℕ) (k : ℕ) → Written w (map f xs) before now k
    → k < length (entries w now) → Stored w now after k (f s) → Written w (map f (xs ++ s ∷ [])) before after (k + 1)
written_more w f xs s before now after k h l st =
    record {
      front = rw (add-one, st.entries_set, map_snoc f xs s, ← h.front) (take-suc-set (entries w now) k (f s) l);
      remainder_kept = st.remainder_kept ∙ h.remainder_kept;
      length_kept = st.length_kept ∙ h.length_kept;
    }

pub walking_start : (w : Work) {reached firsts floors : List ℕ} {steps : ℕ} {places sums : List ℕ} → Lawful w → w.price < mark
    → CanWalk w reached firsts floors steps places sums → Walking w steps places places sums sums steps 0 0 0
walking_start w {reached} {firsts} {floors} {steps} {places} {sums} law high can =
    record {
      front = [];
      whole = refl;
      in_deal = omega arith;
      on =
          forwards_steps w mark law high steps start
          (record { in_deal = omega arith; afforded = omega arith; enough = can.reaches.enough });
      places_are = written_none 2 places;
      sums_are = written_none 4 sums;
    }

-- one turn
module _ {t : Terms} {us held caps floors : List ℕ} (g : Searchable t us held caps floors) (needs : ℕ → ℕ) (m a paid : ℕ) (here : a < t.rows)
    (reads : (b : ℕ) → b ≤ t.rows - 1 → needs b ≡ need (rows_work t us caps floors) mark m b) where
  abbrev w : Work
  w = rows_work t us caps floors

  -- row b holds row a by their words
  held_is : (b : ℕ) → b < t.rows → holds_word 4 (get_or held a 0) (get_or held b 0) ≡ holds_row us a b
  held_is b l =
      rw (g.units_are.word_at a (omega (arith, g.good.rows_are)), g.units_are.word_at b (omega (arith, g.good.rows_are)))
      (held_word us a b g.small)

  -- the row found is that of the step forward: no row below row a holds its units
  row_forward : first_row held floors needs (get_or caps a 0) a paid t.rows a ≡ (forward w mark m (record { place = a; paid = paid })).place
  unfolding first_row forward
  row_forward =
      let all : a + (t.rows - a) ≡ suc w.last = omega (arith, g.good.some) in
      let f = fits w (need w mark m) (record { place = a; paid = paid }) in
      first_ext (delivers held floors needs (get_or caps a 0) a paid) f a (t.rows - a)
      (λ b m l. rw (held_is b (omega arith), reads b (omega (arith, g.good.some))))
      ∙ sym (rw (zero-add a) at (first_skip f 0 a (t.rows - a) (λ b i l. rw (not_held us a b (omega (arith, g.good.rows_are)) (omega arith)))))
      ∙ ap (first_of f 0) all

  module _ {steps : ℕ} {places₀ places sums₀ sums : List ℕ} {k : ℕ} (h : Walking w steps places₀ places sums₀ sums (suc m) k a paid)
      (places_room : k < length (entries 2 places₀)) (sums_room : k < length (entries 4 sums₀)) where
    -- the row found is one of the table's
    pub walking_there : first_row held floors needs (get_or caps a 0) a paid t.rows a < t.rows
    unfolding forwards forward
    walking_there = omega (arith, row_forward, h.on.0.in_deal, g.good.some)

    pub walking_turn : {b : ℕ} {places' sums' : List ℕ} → b ≡ first_row held floors needs (get_or caps a 0) a paid t.rows a
        → Stored 2 places places' k b → Stored 4 sums sums' k (get_or caps a 0) → Walking w steps places₀ places' sums₀ sums' m (k + 1) b (get_or caps a 0)
    unfolding forwards forward
    walking_turn {b} {places'} {sums'} e p q =
        record {
          front = h.front ++ u ∷ [];
          whole = rw (append_assoc h.front (u ∷ []) (forwards w mark m u)) (next ∙ h.whole);
          in_deal = subst (λ (z : State). z.place ≤ w.last) (sym one) h.on.0.in_deal;
          on = subst (λ (z : State). WorkSteps w z (forwards w mark m z)) (sym one) h.on.1;
          places_are = written_more 2 (λ s. s.place) h.front u places₀ places places' k h.places_are
              (omega (arith, entries_same 2 places₀ places h.places_are.length_kept)) p;
          sums_are = written_more 4 (λ s. s.paid) h.front u sums₀ sums sums' k h.sums_are
              (omega (arith, entries_same 4 sums₀ sums h.sums_are.length_kept)) q;
        }
      where
        s : State
        s = record { place = a; paid = paid }

        u : State
        u = record { place = b; paid = get_or caps a 0 }

        one : u ≡ forward w mark m s
        one = state_eq (e ∙ row_forward) refl

        next : (h.front ++ u ∷ forwards w mark m u) ≡ (h.front ++ forwards w mark (suc m) s)
        next = rw one

pub walking_done : (w : Work) (steps : ℕ) (places₀ places sums₀ sums : List ℕ) (left a paid : ℕ)
    → Walking w steps places₀ places sums₀ sums left steps a paid → left ≡ 0 → Walked w steps places₀ places sums₀ sums
unfolding forwards
walking_done w steps places₀ places sums₀ sums left a paid h z =
    let f : h.front ≡ forwards w mark steps start = sym (append-nil h.front) ∙ (rw z at h.whole) in
    record { places_are = rw (← f) h.places_are; sums_are = rw (← f) h.sums_are }

-- the row that was found, if one is
pub first_some : {rows n : ℕ} (r : Option ℕ) → IsFirst rows n r → n < rows → IsSome r
first_some (Some b) x l = search rules
first_some None x l = absurd (omega arith)

pub first_is : {rows n b : ℕ} {r : Option ℕ} → IsFirst rows n r → r ≡ Some b → (b < rows) × (b ≡ n)
first_is x q = rw q at x

-- the walk as the code has it
pub record Going (w : Work) (steps : ℕ) (places₀ places sums₀ sums : List ℕ) (k a paid : ℕ) : Type 0 where
  pub within : k ≤ steps
  pub places_long : length places ≡ length places₀
  pub sums_long : length sums ≡ length sums₀
  pub walking : Walking w steps places₀ places sums₀ sums (steps - k) k a paid

module _ {t : Terms} {us held caps floors reached firsts : List ℕ} {steps : ℕ} {places₀ sums₀ : List ℕ} (g : Searchable t us held caps floors)
    (can : CanWalk (rows_work t us caps floors) reached firsts floors steps places₀ sums₀) where
  pub going_start : Going (rows_work t us caps floors) steps places₀ places₀ sums₀ sums₀ 0 0 0
  going_start =
      let all : steps ≡ steps - 0 = omega arith in
      record {
        within = omega arith;
        places_long = refl;
        sums_long = refl;
        walking =
            subst (λ (z : ℕ). Walking (rows_work t us caps floors) steps places₀ places₀ sums₀ sums₀ z 0 0 0) all
            (walking_start (rows_work t us caps floors) g.lawful g.high can);
      }

  module _ {places sums : List ℕ} {k a paid : ℕ} (h : Going (rows_work t us caps floors) steps places₀ places sums₀ sums k a paid) where
    pub going_in : a < t.rows
    going_in = omega (arith, h.walking.in_deal, g.good.some)

    module _ (more : k < steps) where
      abbrev left : ℕ
      left = steps - 1 - k

      here : Walking (rows_work t us caps floors) steps places₀ places sums₀ sums (suc left) k a paid
      here =
          let one : steps - k ≡ suc left = omega arith in
          subst (λ (z : ℕ). Walking (rows_work t us caps floors) steps places₀ places sums₀ sums z k a paid) one h.walking

      reads : (b : ℕ) → b ≤ t.rows - 1 → need_read reached firsts floors left b ≡ need (rows_work t us caps floors) mark left b
      reads b l = can.reaches.says left b (omega arith) l

      pub going_there : first_row held floors (need_read reached firsts floors left) (get_or caps a 0) a paid t.rows a < t.rows
      going_there =
          walking_there g (need_read reached firsts floors left) left a paid going_in reads here
          (omega (arith, can.room.places_room)) (omega (arith, can.room.sums_room))

      pub going_on : {b : ℕ} {places' sums' : List ℕ} → b ≡ first_row held floors (need_read reached firsts floors left) (get_or caps a 0) a paid t.rows a
          → Stored 2 places places' k b → Stored 4 sums sums' k (get_or caps a 0)
          → Going (rows_work t us caps floors) steps places₀ places' sums₀ sums' (k + 1) b (get_or caps a 0)
      going_on {b} {places'} {sums'} e x y =
          let fewer : left ≡ steps - (k + 1) = omega arith in
          record {
            within = omega arith;
            places_long = x.length_kept ∙ h.places_long;
            sums_long = y.length_kept ∙ h.sums_long;
            walking =
                subst (λ (z : ℕ). Walking (rows_work t us caps floors) steps places₀ places' sums₀ sums' z (k + 1) b (get_or caps a 0)) fewer
                (walking_turn g (need_read reached firsts floors left) left a paid going_in reads here
                (omega (arith, can.room.places_room)) (omega (arith, can.room.sums_room)) e x y);
          }

    pub going_done : steps ≤ k → Walked (rows_work t us caps floors) steps places₀ places sums₀ sums
    going_done z =
        let e : k ≡ steps = omega (arith, h.within) in
        walking_done (rows_work t us caps floors) steps places₀ places sums₀ sums (steps - k) a paid
        (subst (λ (n : ℕ). Walking (rows_work t us caps floors) steps places₀ places sums₀ sums (steps - k) n a paid) e h.walking) (omega arith)
