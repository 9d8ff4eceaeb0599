-- A ladder in its record is a line of segments with one unit each: its totals, and the rung one unit on. Assumes nothing.
use mathlib.Core.Path.{◌≡◌, refl, sym, ◌∙◌}
use mathlib.Core.List.{List}
use Prim.Native.Nat.{ℕ, ◌+◌, ◌*◌, ◌<◌, ◌^◌}
use native.Mathlib.Nat.{one-mul}
use native.Mathlib.Omega.{arith}
use lib.ListN.{length, get_or, length-replicate, get_or-replicate}
use Rattle.area.specs.Entries.{num, column}
use Rattle.area.proofs.Laws.{up_to_at, column_length}
use Rattle.line.specs.Segments.{spread}
use Rattle.line.specs.Code as line
use Rattle.line.proofs.SegmentLaws.{spread_ones, have_ones, sum_ones, opened, at_origin, cost_fits, value_fits, next_segment}
use Rattle.line.proofs.SegmentLaws as segments
use Rattle.line.specs.declared.Cursor.{Cursor}
use Rattle.ladder.specs.Rises.{Lies, costs_in, values_in, deal_in}
use Rattle.ladder.specs.Code.{ones_in, line_in, cursor_of, At, There}
use Rattle.ladder.specs.declared.Ladder.{Ladder}
use Rattle.ladder.specs.declared.rises.Rung.{Rung}

-- number k of a column
pub column_at : (w : ℕ) (s : List ℕ) (i d n k : ℕ) → k < n → get_or (column w s i d n) k 0 ≡ num w s (i + k * d)
unfolding column
column_at w s i d n k h = up_to_at n (λ j. num w s (i + j * d)) k h

module _ (l : Ladder) (s : List ℕ) where
  costs_length : length (costs_in l s) ≡ l.all.units
  costs_length = column_length 4 s l.first 8 l.all.units

  values_length : length (values_in l s) ≡ l.all.units
  values_length = column_length 4 s (l.first + 4) 8 l.all.units

  ones_length : length (ones_in l) ≡ l.all.units
  ones_length = length-replicate l.all.units 1

  pub costs_spread : spread (ones_in l) (costs_in l s) ≡ costs_in l s
  costs_spread = spread_ones l.all.units (costs_in l s) costs_length

  pub values_spread : spread (ones_in l) (values_in l s) ≡ values_in l s
  values_spread = spread_ones l.all.units (values_in l s) values_length

  -- one deal
  pub same_deal : line_in l s ≡ deal_in l s
  same_deal = rw (costs_spread, values_spread) refl

  -- the code's totals are in 32 bits
  pub known : Lies l s → l.all.cost < 2 ^ 32 → l.all.value < 2 ^ 32 → line.Known (ones_in l) (costs_in l s) (values_in l s) l.all
  known p cf vf =
      segments.known (ones_in l) (costs_in l s) (values_in l s) l.all (costs_length ∙ sym ones_length) (values_length ∙ sym ones_length) (have_ones l.all.units)
      (rw ones_length (sym (sum_ones l.all.units l.all.units (omega arith)))) (omega (arith, p.few))
      (rw (costs_spread, costs_length) p.cost_is) cf (rw (values_spread, values_length) p.value_is) vf

  module _ (p : Lies l s) (k : line.Known (ones_in l) (costs_in l s) (values_in l s) l.all) where
    -- ---- the rungs with nothing and with everything delivered, and that of a cursor

    pub at_bottom : At l s (record { place = 0; cost = 0; value = 0 })
    at_bottom = at_origin (ones_in l) (costs_in l s) (values_in l s) k.fit

    pub at_top : (c : Rung) → (c.place ≡ l.all.units) × (c.cost ≡ l.all.cost) × (c.value ≡ l.all.value) → At l s c
    at_top c e =
        record {
          place_is = omega (arith, sum_ones l.all.units c.place (omega arith));
          within = omega (arith, k.units_are);
          left = λ h. absurd (omega (arith, k.units_are));
          cost_is = rw (costs_spread, e.0) (e.1 ∙ p.cost_is);
          value_is = rw (values_spread, e.0) (e.2 ∙ p.value_is);
        }

    pub at_rung : (x : Cursor) → line.At (ones_in l) (costs_in l s) (values_in l s) x → (c : Rung)
        → (c.place ≡ x.place) × (c.cost ≡ x.cost) × (c.value ≡ x.value) → At l s c
    at_rung x a c e =
        record {
          place_is = omega (arith, sum_ones l.all.units c.place (omega (arith, a.within, k.units_are)));
          within = omega (arith, a.within);
          left = λ h. rw (get_or-replicate {A = ℕ} l.all.units c.place 1 0 (omega (arith, k.units_are))) (omega arith);
          cost_is = rw e.0 (e.1 ∙ a.cost_is);
          value_is = rw e.0 (e.2 ∙ a.value_is);
        }

    -- ---- a rung with units left

    module _ (c : Rung) (a : At l s c) (h : c.place < l.all.units) where
      open_at : line.Open (ones_in l) (costs_in l s) (values_in l s) (cursor_of c)
      open_at = opened (ones_in l) (costs_in l s) (values_in l s) l.all k (cursor_of c) a h

      one : get_or (ones_in l) c.place 0 ≡ 1
      one = get_or-replicate l.all.units c.place 1 0 h

      pub cost_next : c.cost + get_or (costs_in l s) c.place 0 < 2 ^ 32
      cost_next = omega (arith, cost_fits _ _ _ _ open_at 1 (omega (arith, one)))

      pub value_next : c.value + get_or (values_in l s) c.place 0 < 2 ^ 32
      value_next = omega (arith, value_fits _ _ _ _ open_at 1 (omega (arith, one)))

      -- the rung one unit on
      pub next_there : There l s
          (record {
            place = c.place + 1;
            cost = c.cost + get_or (costs_in l s) c.place 0;
            value = c.value + get_or (values_in l s) c.place 0;
          })
          (c.place + 1)
      next_there =
          let n = next_segment (ones_in l) (costs_in l s) (values_in l s) (cursor_of c) open_at 1 (omega (arith, one)) (omega (arith, one)) in
          record { at = simp one-mul at n.at; place_is = refl }
