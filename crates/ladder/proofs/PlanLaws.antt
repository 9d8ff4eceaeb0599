-- A ladder gone along unit by unit: the scan for a gap, and where a delivery stops. Assumes nothing.
use mathlib.Core.Path.{◌≡◌, sym, ◌∙◌, subst}
use mathlib.Core.Logic.{◌↔◌}
use mathlib.Core.Bool.{Bool, true, false, not}
use mathlib.Core.List.{List}
use Prim.Native.Nat.{ℕ, suc, ◌+◌, ◌≤◌, ◌<◌}
use native.Mathlib.Decide.{dec_le}
use native.Mathlib.Numerals.{add-one}
use lib.ListN.{get_or}
use native.Mathlib.Omega.{arith}
use borrow.Author.Tests.{not-true, not-false}
use lib.Dec.{T}
use lib.IntN.{pos}
use lib.Signed.{le_z, ◌≤ℤ◌}
use Rattle.exchange.specs.Bounds.{lower_of}
use Rattle.exchange.specs.Deal.{Safe}
use Rattle.exchange.proofs.Int.{le_z_true}
use Rattle.line.specs.Segments.{spread}
use Rattle.line.specs.Code as line
use Rattle.line.specs.Code.{Decides, meet, sum_to}
use Rattle.line.specs.declared.Cursor.{Cursor}
use Rattle.line.specs.Course as course
use Rattle.line.proofs.SegmentLaws.{sum_up}
use Rattle.line.proofs.DealLaws as deals
use Rattle.ladder.specs.Rises.{Lies, costs_in, values_in}
use Rattle.ladder.specs.Code.{ones_in, course_of, line_in, cursor_of, At, There}
use Rattle.ladder.specs.declared.Ladder.{Ladder}
use Rattle.ladder.specs.declared.rises.Rung.{Rung}
use Rattle.ladder.proofs.RiseLaws.{at_bottom, next_there, at_top, at_rung}

-- no gap lies before unit i
abbrev Joined : Ladder → List ℕ → ℕ → Type 0
Joined l s i = deals.Joined l.sides (ones_in l) (costs_in l s) (values_in l s) i

-- the start is safe, and no gap lies before the rung's place
abbrev pub Clear : Ladder → List ℕ → Rung → Type 0
Clear l s c = deals.Clear l.sides (ones_in l) (costs_in l s) (values_in l s) (cursor_of c)

module _ (l : Ladder) (s : List ℕ) (p : Lies l s) (k : line.Known (ones_in l) (costs_in l s) (values_in l s) l.all) where
  lower_at : (c : Rung) → At l s c → lower_of l.sides.price l.all.value c.value l.sides.buyer ≡ (line_in l s).lower c.place
  lower_at c a = deals.lower_at l.sides (ones_in l) (costs_in l s) (values_in l s) l.all k (cursor_of c) a

  -- ---- the scan for a gap

  pub clear_bottom : Safe (line_in l s) 0 0 → Clear l s (record { place = 0; cost = 0; value = 0 })
  clear_bottom h = record { at = at_bottom l s p k; safe = h; no_gap = λ i q. absurd (omega arith) }

  module _ (c to : Rung) (m : There l s to (c.place + 1)) (b : Bool) (e : b ≡ meet l.sides l.all c.cost to.value) where
    -- the test of both places
    gap_test : At l s c → (b ≡ true) ↔ Joined l s c.place
    gap_test a =
        let q : to.place ≡ suc c.place = omega (arith, m.place_is) in
        rw (e, k.cost_is, k.value_is, a.cost_is, m.at.value_is, q) (le_z_true _ _)

    pub clear_next : Clear l s c → not b ≡ false → Clear l s to
    clear_next r h = record { at = m.at; safe = r.safe; no_gap = λ i q. before i q (dec_le c.place i) }
      where
        before : (i : ℕ) → i < to.place → Dec (c.place ≤ i) → Joined l s i
        before i q (yes u) =
            let w : i ≡ c.place = omega (arith, m.place_is) in
            rw w ((gap_test r.at).0 (not-false b h))
        before i q (no u) = r.no_gap i (omega arith)

    pub gap_none : At l s c → c.place < l.all.units → not b ≡ true → Decides (line_in l s) false
    gap_none a q h =
        deals.none l.sides (ones_in l) (costs_in l s) (values_in l s)
        (λ d.
        let w = deals.possible_joined l.sides (ones_in l) (costs_in l s) (values_in l s) d c.place (omega (arith, k.units_are)) in
        subst T (sym ((gap_test a).1 w) ∙ not-true b h) tt)

  pub clear_all : (c : Rung) → Clear l s c → l.all.units ≤ c.place → Decides (line_in l s) true
  clear_all c r h = deals.clear_all l.sides (ones_in l) (costs_in l s) (values_in l s) l.all k (cursor_of c) r h

  -- no gap is anywhere where even the lower bound of the last place is at most the upper bound of the start
  pub no_gaps : Safe (line_in l s) 0 0 → meet l.sides l.all 0 l.all.value ≡ true → Decides (line_in l s) true
  no_gaps h e = deals.all l.sides (ones_in l) (costs_in l s) (values_in l s) h each
    where
      each : (i : ℕ) → i < (line_in l s).last → Joined l s i
      each i q =
          let cost = sum_to (spread (ones_in l) (costs_in l s)) i in
          let value = sum_to (spread (ones_in l) (values_in l s)) (suc i) in
          let meets = deals.meet↔ l.sides (ones_in l) (costs_in l s) (values_in l s) l.all k in
          let most = sum_up (spread (ones_in l) (values_in l s)) (suc i) (line_in l s).last q in
          rw (← k.value_is, ← k.cost_is)
          ((le_z_true _ _).0 ((meets cost value).1 (omega (arith, (meets 0 l.all.value).0 e, most, k.value_is))))

  -- ---- a delivery

  module _ (paid : ℕ) where
    pub delivers_all : (c : Rung) → (c.place ≡ l.all.units) × (c.cost ≡ l.all.cost) × (c.value ≡ l.all.value)
        → (b : Bool) → b ≡ le_z (lower_of l.sides.price l.all.value l.all.value l.sides.buyer) (pos paid) → b ≡ true
        → course.Delivered (course_of l s) paid (cursor_of c)
    delivers_all c t b e h =
        let a = at_top l s p k c t in
        let low : (line_in l s).lower c.place ≤ℤ pos paid = (le_z_true _ _).0 (rw (← lower_at c a, t.2) (sym e ∙ h)) in
        deals.stops_last l.sides (ones_in l) (costs_in l s) (values_in l s) l.all k paid (cursor_of c)
        (record { at = a; low = low }) (omega arith)

    -- b tells whether the lower bound of the place after the rung's is at most what is paid
    module _ (c : Rung) (r : course.Reached (course_of l s) paid (cursor_of c)) (q : c.place < l.all.units) (v : ℕ) (f : v ≡ get_or (values_in l s) c.place 0)
        (b : Bool) (e : b ≡ le_z (lower_of l.sides.price l.all.value (c.value + v) l.sides.buyer) (pos paid)) where
      next_test : b ≡ le_z ((line_in l s).lower (suc c.place)) (pos paid)
      next_test =
          let n = next_there l s p k c r.at q in
          rw (f, lower_at _ n.at, add-one c.place) at e

      pub delivers_here : not b ≡ true → course.Delivered (course_of l s) paid (cursor_of c)
      delivers_here h =
          record {
            at = r.at;
            reached =
                deals.reach_is l.sides (ones_in l) (costs_in l s) (values_in l s) paid c.place r.at.within r.low
                (λ _. sym next_test ∙ not-true b h);
          }

      pub reached_next : (to : Rung) → There l s to (c.place + 1) → not b ≡ false → course.Reached (course_of l s) paid (cursor_of to)
      reached_next to m h =
          let w : to.place ≡ suc c.place = omega (arith, m.place_is) in
          record { at = m.at; low = (le_z_true _ _).0 (rw w (sym next_test ∙ not-false b h)) }

    pub reached_rung : (x : Cursor) → course.Reached (course_of l s) paid x → (c : Rung)
        → (c.place ≡ x.place) × (c.cost ≡ x.cost) × (c.value ≡ x.value) → course.Reached (course_of l s) paid (cursor_of c)
    reached_rung x r c e = record { at = at_rung l s p k x r.at c e; low = rw e.0 r.low }

    pub delivers_last : (c : Rung) → course.Reached (course_of l s) paid (cursor_of c) → l.all.units ≤ c.place
        → course.Delivered (course_of l s) paid (cursor_of c)
    delivers_last c r h =
        deals.stops_last l.sides (ones_in l) (costs_in l s) (values_in l s) l.all k paid (cursor_of c) r h
