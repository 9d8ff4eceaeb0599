-- Planning a table: what the parts of the search make of the promise. Assumes nothing.
use Rattle.std.proofs.Common.{Option, Some, None}
use mathlib.Core.Path.{◌≡◌, refl, sym, ap, ◌∙◌}
use mathlib.Core.Bool.{true, false, cond, false≢true}
use mathlib.Core.List.{List, map}
use Prim.Native.Nat.{ℕ, ◌-◌, ◌≤◌, ◌<◌}
use native.Mathlib.Decide.{dec_lt}
use native.Mathlib.Omega.{arith}
use lib.ListN.{length, get_or, length-map}
use Rattle.area.specs.Entries.{Cleared}
use Rattle.area.proofs.FilledLaws.{filled}
use Rattle.grid.specs.Rows.{rows_of, LastLargest}
use Rattle.grid.specs.Units.{RowUnits}
use Rattle.grid.proofs.LastLaws.{last_largest}
use Rattle.contract.specs.Contract.{limit}
use Rattle.exchange.specs.Deal.{State, Plan, start}
use Rattle.exchange.specs.Work.{Work, Lawful}
use Rattle.exchange.specs.Forms.{table}
use Rattle.exchange.specs.Search.{most_steps, count, forwards}
use Rattle.exchange.proofs.Bridge.{lawful}
use Rattle.exchange.proofs.FormLaws.{table_rising}
use Rattle.exchange.proofs.TableLaws.{row_self, row_start}
use Rattle.exchange.proofs.TablePlan.{table_counted, table_earliest}
use Rattle.exchange.proofs.TablePlan.Count.{count_plan}
use Rattle.exchange.proofs.TablePlan.Forward.{forwards_length}
use Rattle.exchange.specs.declared.Sides.{Sides}
use Rattle.search.specs.declared.Terms.{Terms}
use Rattle.search.specs.Promise.{Rise, suits, Success}
use Rattle.search.specs.Layers.{mark, working, rows_work, Caps, Floors, Searchable, Counted, Room, CanWalk, starts_by, Fitted, Found}
use Rattle.search.proofs.AlikeLaws.{Alike, count_alike, forwards_alike}
use Rattle.search.proofs.CountLaws.{some_steps, none_steps}
use Rattle.search.proofs.SuitLaws.{suits_is, fit, some_units, start↔, units_few_lem}

-- ---- a table that suits

module _ (us costs values places sums work : List ℕ) {n : ℕ} (e : Some n ≡ cond (suits us costs values places sums work) (Some (most_steps us)) None) where
  pub suited : suits us costs values places sums work ≡ true
  suited = (fit us costs values places sums work e).0

  pub all_steps : n ≡ most_steps us
  all_steps = (fit us costs values places sums work e).1

  pub fitted : (p : Sides) → Rise us costs values × (length us ≤ 4) × (p.price ≤ limit)
      → Fitted (record { sides = p; rows = length costs }) us costs values n places sums
  fitted p asked =
      let s = suits_is us costs values places sums work suited in
      record {
        within = asked.2;
        good = record { rows_are = s.costs_all; some = omega (arith, s.some, s.costs_all); few = omega (arith, s.few, s.costs_all) };
        small = record { items = asked.1; rows = s.few };
        costs_all = s.costs_all;
        values_all = s.values_all;
        rise = asked.0;
        early = omega (arith, all_steps, units_few_lem us, s.few);
        room = record { places_room = omega (arith, s.places_room, all_steps); sums_room = omega (arith, s.sums_room, all_steps) };
      }

-- ---- the search by the arrays of the rows

module _ {w : Work} {most k : ℕ} {reached firsts floors places sums : List ℕ} (c : Counted w most reached firsts floors (Some k)) where
  pub can_walk : Room most places sums → CanWalk w reached firsts floors k places sums
  can_walk r =
      let l = (some_steps w most c.count_is).1 in
      record {
        reaches = c.reaches k refl;
        room = record { places_room = omega (arith, r.places_room, l); sums_room = omega (arith, r.sums_room, l) };
      }

module _ {t : Terms} {us costs values places sums : List ℕ} {most : ℕ} (f : Fitted t us costs values most places sums) where
  -- no price reaches the mark
  high : t.sides.price < mark
  high = omega (arith, f.within)

  -- no value is above the last one
  pub values_last : LastLargest values
  values_last = last_largest us values f.values_all (rw (← f.values_all) f.rise.values_rise)

  law : Lawful (working t us costs values)
  law = lawful _ (table_rising t.sides us costs values f.costs_all f.values_all f.rise.costs_rise f.rise.values_rise)

  -- ---- the arrays have the caps and the floors of the rows

  module _ {caps floors : List ℕ} (cs : Caps t costs caps t.rows) (fs : Floors t values floors t.rows) where
    abbrev w : Work
    w = rows_work t us caps floors

    last_is : t.rows - 1 ≡ rows_of us - 1
    last_is = ap (λ (n : ℕ). n - 1) f.good.rows_are

    cap_is : (a : ℕ) → a ≤ w.last → get_or caps a 0 ≡ (working t us costs values).cap a
    cap_is a l = rw (← f.good.rows_are) (cs.entry a (omega (arith, f.good.some)))

    floor_is : (a : ℕ) → a ≤ w.last → get_or floors a 0 ≡ (working t us costs values).floor a
    floor_is a l = rw (← f.good.rows_are) (fs.entry a (omega (arith, f.good.some)))

    alike : Alike w (working t us costs values)
    alike = record { price_is = refl; last_is = last_is; holds_is = λ a b. refl; cap_is = cap_is; floor_is = floor_is }

    rows_lawful : Lawful w
    rows_lawful =
        record {
          holds_self = row_self us;
          holds_start = row_start us;
          cap_rises = λ a b i j h. rw (cap_is a i, cap_is b j) (law.cap_rises a b (omega (arith, last_is)) (omega (arith, last_is)) h);
          floor_rises = λ a b i j h. rw (floor_is a i, floor_is b j) (law.floor_rises a b (omega (arith, last_is)) (omega (arith, last_is)) h);
          cap_price = λ a. price a (dec_lt a t.rows);
          cap_last = cap_is w.last (omega arith) ∙ rw last_is law.cap_last;
          floor_last = rw (floor_is w.last (omega arith), last_is) law.floor_last;
        }
      where
        price : (a : ℕ) → Dec (a < t.rows) → get_or caps a 0 ≤ t.sides.price
        price a (yes l) = rw (cap_is a (omega arith)) (law.cap_price a)
        price a (no n) = rw (cs.rest a (omega arith)) (omega arith)

    pub searchable : {held : List ℕ} → RowUnits us held (rows_of us) → Searchable t us held caps floors
    searchable u = record { good = f.good; small = f.small; units_are = u; high = high; lawful = rows_lawful }

    -- what is found by the arrays is found of the table
    pub found_same : {r : Option ℕ} {places' sums' : List ℕ} → Found w most r places places' sums sums'
        → Found (working t us costs values) most r places places' sums sums'
    found_same {r} {places'} {sums'} h =
        record {
          count_is = h.count_is ∙ rw (count_alike alike mark most);
          written = λ n q. record { places_are = rw (← same n q) (h.written n q).places_are; sums_are = rw (← same n q) (h.written n q).sums_are };
          places_kept = h.places_kept;
          sums_kept = h.sums_kept;
        }
      where
        same : (n : ℕ) → r ≡ Some n → forwards w mark n start ≡ forwards (working t us costs values) mark n start
        same n q =
            let x = some_steps w most (sym q ∙ h.count_is) in
            forwards_alike alike mark n start (omega arith)
            (rw x.0 (count_plan w mark most rows_lawful high (omega (arith, x.0, x.1))).steps)

  -- ---- the answers

  -- a start that is not safe
  pub no_start : starts_by t costs values ≡ false → (ys : List State) → Plan (table t.sides us costs values) ys → ⊥
  no_start unsafe ys p =
      let q = table_counted t.sides us costs values f.costs_all f.values_all f.rise.costs_rise f.rise.values_rise mark ys p in
      false≢true (sym unsafe ∙ (start↔ t us costs values f.good).1 q.0)

  -- no count of steps
  pub no_count : most ≡ most_steps us → {places' sums' : List ℕ} → Found (working t us costs values) most None places places' sums sums'
      → (ys : List State) → Plan (table t.sides us costs values) ys → ⊥
  no_count all found ys p =
      let q = table_counted t.sides us costs values f.costs_all f.values_all f.rise.costs_rise f.rise.values_rise mark ys p in
      omega (arith, rw all at (none_steps _ most found.count_is), q.1)

  module _ (all : most ≡ most_steps us) {k : ℕ} {places' sums' : List ℕ} (found : Found (working t us costs values) most (Some k) places places' sums sums') where
    counts : k ≡ count (working t us costs values) mark (most_steps us)
    counts = rw (← all) (some_steps _ most found.count_is).0

    -- the plan that the areas hold
    pub planned_success : starts_by t costs values ≡ true → {places₂ sums₂ : List ℕ}
        → Cleared 2 places' places₂ k → Cleared 4 sums' sums₂ k → Success (table t.sides us costs values) k places sums places₂ sums₂
    planned_success safe {places₂} {sums₂} cp cz =
        let l = (some_steps _ most found.count_is).1 in
        let wp = (found.written k refl).places_are in
        let ws = (found.written k refl).sums_are in
        record {
          plan = xs;
          earliest =
              rw counts
              (table_earliest t.sides us costs values f.costs_all f.values_all f.rise.costs_rise f.rise.values_rise mark
              high (some_units us (omega (arith, f.good.some, f.good.rows_are))) ((start↔ t us costs values f.good).0 safe) (omega (arith, counts, all, l)));
          steps = sym size;
          places_are = filled 2 _ places places' places₂ k (long _) wp.front wp.remainder_kept wp.length_kept cp;
          sums_are = filled 4 _ sums sums' sums₂ k (long _) ws.front ws.remainder_kept ws.length_kept cz;
        }
      where
        xs : List State
        xs = forwards (working t us costs values) mark k start

        size : length xs ≡ k
        size = forwards_length (working t us costs values) mark k start

        long : (g : State → ℕ) → length (map g xs) ≡ k
        long g = length-map xs g ∙ size
