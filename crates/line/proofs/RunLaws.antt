-- The rule's steps, written into the areas one by one. Assumes nothing.
use Rattle.std.proofs.Common.{Option, Some, None, Ok}
use Rattle.exchange.specs.declared.Objective.{Objective}
use mathlib.Core.Path.{◌≡◌, refl, sym, ap, ◌∙◌, subst}
use mathlib.Core.Logic.{◌↔◌, dite}
use mathlib.Core.Bool.{Bool, true, false, ◌&&◌, and-eq-true_iff}
use mathlib.Core.List.{List, [], ◌∷◌, map, ◌++◌, append_assoc, append-nil}
use Prim.Native.Nat.{ℕ, zero, suc, ◌+◌, ◌*◌, ◌≤◌, ◌<◌, min}
use native.Mathlib.Decide.{dec_le}
use native.Mathlib.Omega.{arith}
use native.Mathlib.Numerals.{add-one}
use borrow.Author.Tests.{eqb-true, eq-eqb, leb-true, le-leb}
use lib.Dec.{T, eqb}
use lib.ListN.{length, get_or, take, drop, length-append, length-map, length-take}
use lib.Seq.{drop-cons, set_at, take_at}
use Rattle.area.specs.Entries.{entries, Stored, Cleared}
use Rattle.area.specs.Filled.{Filled}
use Rattle.area.proofs.FilledLaws.{filled}
use Rattle.exchange.specs.Arrival.{Arrives}
use Rattle.exchange.specs.Bounds.{upper_of}
use Rattle.exchange.specs.Deal.{Deal, State, end}
use Rattle.exchange.specs.Possible.{Possible}
use Rattle.exchange.specs.Rule.{coins, rule, ruled}
use Rattle.exchange.specs.Work.{work_of}
use Rattle.exchange.specs.declared.Sides.{Sides}
use Rattle.exchange.proofs.Bridge.{coins_low, start_covered}
use Rattle.exchange.proofs.GivenOrder.Greedy.{Stands, greedy, greedy_leads}
use Rattle.exchange.proofs.GivenOrder.Lead.{run_keeps}
use Rattle.exchange.proofs.GivenOrder.RuleLaws.{rule_greedy, ruled_run, ruled_length}
use Rattle.exchange.proofs.GivenOrder.Starts.{step_stands}
use Rattle.exchange.proofs.Objectives.{from_exists}
use Rattle.exchange.proofs.GivenOrder.Run.{run, run_add, state_eq}
use Rattle.line.specs.Segments.{spread, fits, deal_along}
use Rattle.line.specs.Promise.{suits, Answers}
use Rattle.line.specs.Code.{Fit, Known, At, Reached, Delivered, Holds, Written, Begins, Room, state_at}
use Rattle.line.specs.declared.Cursor.{Cursor}
use Rattle.line.specs.declared.Totals.{Totals}
use Rattle.line.proofs.SegmentLaws.{fits↔, not_so}
use Rattle.line.proofs.DealLaws.{rising, on_line, upper_at}

-- ---- an area, entry by entry

take_rest : (k : ℕ) (l : List ℕ) → take k l ++ drop (length (take k l)) l ≡ l
take_rest zero l = refl
take_rest (suc k) [] = refl
take_rest (suc k) (x ∷ l) = ap (λ (r : List ℕ). x ∷ r) (take_rest k l)

-- nothing yet, from entry k on
pub holds_none : (w k : ℕ) (area : List ℕ) → Holds w (take k (entries w area) ++ []) area area
holds_none w k area =
    record { entries_are = rw (append-nil (take k (entries w area))) (sym (take_rest k (entries w area))); remainder_kept = refl; length_kept = refl }

pub holds_next : (w : ℕ) (xs before mid after : List ℕ) (n v : ℕ) → Holds w xs before mid → Stored w mid after n v → length xs ≡ n
    → n < length (entries w before) → Holds w (xs ++ v ∷ []) before after
holds_next w xs before mid after n v h s l r =
    let old = entries w before in
    let e : length (xs ++ v ∷ []) ≡ suc n = simp length-append (omega arith) in
    record {
      entries_are =
          rw (s.entries_set, h.entries_are, l, drop-cons old n 0 r, set_at xs (get_or old n 0) (drop (suc n) old) v n l, e)
          (sym (append_assoc xs (v ∷ []) (drop (suc n) old)));
      remainder_kept = s.remainder_kept ∙ h.remainder_kept;
      length_kept = s.length_kept ∙ h.length_kept;
    }

-- the rest cleared
holds_cleared : (w : ℕ) (xs before mid after : List ℕ) (n : ℕ) → Holds w xs before mid → Cleared w mid after n → length xs ≡ n
    → Filled w xs before after
holds_cleared w xs before mid after n h c l =
    filled w xs before mid after n l (rw (h.entries_are, take_at xs (drop (length xs) (entries w before)) n l)) h.remainder_kept h.length_kept c

-- ---- the rule's states

state_suc : (d : Deal) (f : State) (n : ℕ) → state_at d f (suc n) ≡ rule d (state_at d f n)
state_suc d f n =
    let g = greedy (work_of d) in
    let e : suc n ≡ n + 1 = omega arith in
    ruled_run d f (suc n) ∙ ap (run g f) e ∙ run_add g f n 1 ∙ ap g (sym (ruled_run d f n)) ∙ sym (rule_greedy d (state_at d f n))

ruled_snoc : (d : Deal) (f : State → ℕ) (s : State) (n : ℕ) → map f (ruled d s (suc n)) ≡ map f (ruled d s n) ++ f (rule d (state_at d s n)) ∷ []
unfolding ruled
ruled_snoc d f s zero = refl
ruled_snoc d f s (suc n) = ap (λ (xs : List ℕ). f (rule d s) ∷ xs) (ruled_snoc d f (rule d s) n)

-- the numbers of n states from entry k on in an area, and of one state more
area_next : (d : Deal) (s : State) (w : ℕ) (f : State → ℕ) (before mid after : List ℕ) (k n v : ℕ)
    → Holds w (take k (entries w before) ++ map f (ruled d s n)) before mid
    → Stored w mid after (k + n) v → k + n < length (entries w before) → v ≡ f (rule d (state_at d s n))
    → Holds w (take k (entries w before) ++ map f (ruled d s (suc n))) before after
area_next d s w f before mid after k n v h st r e =
    let front = take k (entries w before) in
    let long : length (front ++ map f (ruled d s n)) ≡ k + n =
    simp (length-append, length-map, ruled_length d s n, length-take) (omega arith) in
    rw (ruled_snoc d f s n, ← e, ← append_assoc front (map f (ruled d s n)) (v ∷ []))
    (holds_next w (front ++ map f (ruled d s n)) before mid after (k + n) v h st long r)

-- ---- the loop that writes them

module _ (s : Sides) (us cs vs : List ℕ) where
  -- the cursor stands after n steps by the rule from f, and the end was not reached before
  pub record Along (f : State) (c : Cursor) (paid n : ℕ) : Type 0 where
    pub at : At us cs vs c
    pub state_is : state_at (deal_along s us cs vs) f n ≡ record { place = c.place; paid = paid }
    pub not_before : (k : ℕ) → k < n → state_at (deal_along s us cs vs) f k ≡ end (deal_along s us cs vs) → ⊥

  -- and these steps are written from entry k on where there is room
  pub record Going (f : State) (k : ℕ) (places sums places' sums' : List ℕ) (c : Cursor) (paid n : ℕ) : Type 0 where
    pub along : Along f c paid n
    pub places_long : length places' ≡ length places
    pub sums_long : length sums' ≡ length sums
    pub written : Room 2 us cs places → Room 4 us cs sums → Written k (ruled (deal_along s us cs vs) f n) places sums places' sums'

  pub along_start : (c : Cursor) (paid : ℕ) → At us cs vs c → Along (record { place = c.place; paid = paid }) c paid 0
  unfolding ruled
  along_start c paid a = record { at = a; state_is = refl; not_before = λ j (h : j < 0). absurd (omega arith) }

  pub going_start : (c : Cursor) (paid k : ℕ) (places sums : List ℕ) → At us cs vs c
      → Going (record { place = c.place; paid = paid }) k places sums places sums c paid 0
  unfolding ruled
  going_start c paid k places sums a =
      record {
        along = along_start c paid a;
        places_long = refl;
        sums_long = refl;
        written = λ _ _. record { places_hold = holds_none 2 k places; sums_hold = holds_none 4 k sums };
      }

  module _ (t : Totals) (known : Known us cs vs t) {f : State} {c : Cursor} {paid n : ℕ} (g : Along f c paid n) where
    -- the test of the end
    end_test : (b : Bool) → b ≡ (eqb c.place t.units && eqb paid s.price)
        → (b ≡ true) ↔ (state_at (deal_along s us cs vs) f n ≡ end (deal_along s us cs vs))
    end_test b e = (
      λ h.
          let f = (and-eq-true_iff _ _).0 (sym e ∙ h) in
          g.state_is ∙ state_eq (eqb-true _ _ f.0 ∙ known.units_are) (eqb-true _ _ f.1),
      λ h.
          let f = sym g.state_is ∙ h in
          e ∙ rw (eq-eqb _ _ (ap (λ (u : State). u.place) f ∙ sym known.units_are), eq-eqb _ _ (ap (λ (u : State). u.paid) f)),
    )

    pub along_far : (b : Bool) → b ≡ (eqb c.place t.units && eqb paid s.price) → b ≡ false
        → state_at (deal_along s us cs vs) f n ≡ end (deal_along s us cs vs) → ⊥
    along_far b e h q = subst T (sym ((end_test b e).1 q) ∙ h) tt

    pub along_arrives : (b : Bool) → b ≡ (eqb c.place t.units && eqb paid s.price) → b ≡ true → Arrives (deal_along s us cs vs) f n
    along_arrives b e h = record { there = (end_test b e).0 h; not_before = g.not_before }

    module _ (p : Possible (deal_along s us cs vs)) {k : ℕ} (begins : Begins (deal_along s us cs vs) f k) where
      -- the rule's state is safe
      pub along_low : Reached s us cs vs paid c
      along_low =
          let d = deal_along s us cs vs in
          let o = on_line s us cs vs in
          let first : Stands (work_of d) f = step_stands o (start_covered d (rising s us cs vs) p.start_safe) f begins.step in
          let stands : Stands (work_of d) (state_at d f n) = rw (ruled_run d f n) (run_keeps (greedy_leads o) f first n) in
          let here = rw g.state_is at stands in
          record { at = g.at; low = (coins_low _ paid).1 here.covered }

      -- before the end there is room for one more step
      pub not_yet : (state_at (deal_along s us cs vs) f n ≡ end (deal_along s us cs vs) → ⊥) → k + n < 2 * length (spread us cs) + 1
      not_yet far = go (from_exists (deal_along s us cs vs) (rising s us cs vs) (λ a b. refl) p f begins.step)
        where
          go : (m : ℕ) × Arrives (deal_along s us cs vs) f m → k + n < 2 * length (spread us cs) + 1
          go (m, a) =
              dite (dec_le m n)
              (λ (q : m ≤ n). absurd (dite (dec_le n m)
              (λ (u : n ≤ m). let e : n ≡ m = omega arith in far (rw e a.there))
              (λ (u : n ≤ m → ⊥). g.not_before m (omega arith) a.there)))
              (λ (q : m ≤ n → ⊥). omega (arith, begins.short m a))

    -- one step more
    module _ (far : state_at (deal_along s us cs vs) f n ≡ end (deal_along s us cs vs) → ⊥) (c' : Cursor) (q : ℕ) (m : Delivered s us cs vs paid c')
        (e : q ≡ min (coins (upper_of s.price t.cost c.cost s.supplier)) s.price) where
      step_is : rule (deal_along s us cs vs) (state_at (deal_along s us cs vs) f n) ≡ record { place = c'.place; paid = q }
      unfolding rule
      step_is =
          ap (rule (deal_along s us cs vs)) g.state_is
          ∙ state_eq (sym m.reached) (sym (rw (upper_at s us cs vs t known c g.at) at e))

      pub along_next : Along f c' q (n + 1)
      along_next =
          rw (add-one n)
          (record {
            at = m.at;
            state_is = state_suc (deal_along s us cs vs) f n ∙ step_is;
            not_before =
                λ j l. dite (dec_le n j) (λ (u : n ≤ j). let w : n ≡ j = omega arith in rw w at far) (λ (u : n ≤ j → ⊥). g.not_before j (omega arith));
          })

      pub written_next : {k : ℕ} {places sums places' sums' : List ℕ} → Written k (ruled (deal_along s us cs vs) f n) places sums places' sums'
          → k + n < length (entries 2 places) → k + n < length (entries 4 sums) → (places'' sums'' : List ℕ) → Stored 2 places' places'' (k + n) c'.place
          → Stored 4 sums' sums'' (k + n) q → Written k (ruled (deal_along s us cs vs) f (n + 1)) places sums places'' sums''
      written_next {k} w hp hs places'' sums'' sp ss =
          let d = deal_along s us cs vs in
          rw (add-one n)
          (record {
            places_hold = area_next d f 2 (λ u. u.place) _ _ places'' k n c'.place w.places_hold sp hp (ap (λ (u : State). u.place) (sym step_is));
            sums_hold = area_next d f 4 (λ u. u.paid) _ _ sums'' k n q w.sums_hold ss hs (ap (λ (u : State). u.paid) (sym step_is));
          })

    -- one step more, stored where there is room
    pub going_next : {k : ℕ} {places sums places' sums' : List ℕ} → Going f k places sums places' sums' c paid n
        → k + n < 2 * length (spread us cs) + 1 → (state_at (deal_along s us cs vs) f n ≡ end (deal_along s us cs vs) → ⊥) → (c' : Cursor) (q : ℕ)
        → Delivered s us cs vs paid c' → q ≡ min (coins (upper_of s.price t.cost c.cost s.supplier)) s.price
        → (places'' sums'' : List ℕ) → Stored 2 places' places'' (k + n) c'.place → Stored 4 sums' sums'' (k + n) q
        → Going f k places sums places'' sums'' c' q (n + 1)
    going_next h room far c' q m e places'' sums'' sp ss =
        record {
          along = along_next far c' q m e;
          places_long = sp.length_kept ∙ h.places_long;
          sums_long = ss.length_kept ∙ h.sums_long;
          written = λ rp rs. written_next far c' q m e (h.written rp rs) (omega arith) (omega arith) places'' sums'' sp ss;
        }

-- ---- the whole plan

-- the steps written, and the entries after them cleared
pub filled_by : (xs : List State) (places sums mid mid' places' sums' : List ℕ) (n : ℕ) → n ≡ length xs → Written 0 xs places sums mid mid'
    → Cleared 2 mid places' n → Cleared 4 mid' sums' n
    → Filled 2 (map (λ s. s.place) xs) places places' × Filled 4 (map (λ s. s.paid) xs) sums sums'
filled_by xs places sums mid mid' places' sums' n l w cp cs = (
  holds_cleared 2 _ places mid places' n w.places_hold cp (length-map xs _ ∙ sym l),
  holds_cleared 4 _ sums mid' sums' n w.sums_hold cs (length-map xs _ ∙ sym l),
)

-- the segments and both areas suit exactly if the segments fit and there is room
suits↔ : (us cs vs places sums : List ℕ)
    → (suits us cs vs places sums ≡ true) ↔ (Fit us cs vs × Room 2 us cs places × Room 4 us cs sums)
unfolding suits
suits↔ us cs vs places sums = (
  λ e.
      let f = (and-eq-true_iff _ _).0 e in
      let g = (and-eq-true_iff (fits us cs vs) _).0 f.0 in
      ((fits↔ us cs vs).0 g.0, leb-true _ _ g.1, leb-true _ _ f.1),
  λ h. rw ((fits↔ us cs vs).1 h.0, le-leb _ _ h.1) (le-leb _ _ h.2),
)

module _ (us cs vs places sums : List ℕ) where
  pub unsuited_segments : fits us cs vs ≡ false → suits us cs vs places sums ≡ false
  unsuited_segments e = not_so _ (λ h. subst T (sym ((fits↔ us cs vs).1 ((suits↔ us cs vs places sums).0 h).0) ∙ e) tt)

  module _ (t : Totals) (k : Known us cs vs t) where
    pub unsuited_places : {n : ℕ} → n ≡ length (entries 2 places) → n < 2 * t.units + 1 → suits us cs vs places sums ≡ false
    unsuited_places {n} e h = not_so _ (λ q. let r = ((suits↔ us cs vs places sums).0 q).1 in omega (arith, k.units_are))

    pub unsuited_sums : {n : ℕ} → n ≡ length (entries 4 sums) → n < 2 * t.units + 1 → suits us cs vs places sums ≡ false
    unsuited_sums {n} e h = not_so _ (λ q. let r = ((suits↔ us cs vs places sums).0 q).2 in omega (arith, k.units_are))

    pub suited : {m n : ℕ} → m ≡ length (entries 2 places) → 2 * t.units + 1 ≤ m → n ≡ length (entries 4 sums) → 2 * t.units + 1 ≤ n
        → (suits us cs vs places sums ≡ true) × Room 2 us cs places × Room 4 us cs sums
    suited {m} {n} e h e' h' =
        let u = k.units_are in
        let p : Room 2 us cs places = omega arith in
        let q : Room 4 us cs sums = omega arith in
        ((suits↔ us cs vs places sums).1 (k.fit, p, q), p, q)

-- the answer for segments and areas that suit
pub suits_too : (aim : Objective) (d : Deal) {suit : Bool} → suit ≡ true → (r : Option ℕ) (places sums places' sums' : List ℕ)
    → Answers aim d true (Ok r) places sums places' sums' → Answers aim d suit (Ok r) places sums places' sums'
suits_too aim d e (Some n) _ _ _ _ h = (e, h.1)
suits_too aim d e None _ _ _ _ h = (e, h.1)
