-- What the writer answers, test by test. Assumes nothing.
use mathlib.Core.Path.{◌≡◌, refl, sym, ap, ◌∙◌}
use mathlib.Core.Logic.{◌⊎◌, inl, inr}
use mathlib.Core.Bool.{true, false, and-eq-true_iff}
use mathlib.Core.List.{List, [], ◌++◌, flat_map, append_assoc}
use Prim.Native.Nat.{ℕ, ◌+◌, ◌*◌, ◌≤◌, ◌<◌}
use native.Mathlib.Nat.{zero-add}
use native.Mathlib.Omega.{arith}
use borrow.Author.Tests.{lt-ltb, le-leb, lt-leb, leb-true, ltb-true}
use lib.ListN.{length, take, length-append}
use lib.Seq.{sets-eq}
use Rattle.std.proofs.Common.{Result, Ok, Err}
use Rattle.std.specs.Result.{IsErrAnd}
use Rattle.std.proofs.lemmas.Result.{err_from_is_err_and}
use Rattle.area.specs.Entries.{digits}
use Rattle.grid.specs.Rows.{rows_of, rising}
use Rattle.grid.specs.Map.{map_size, bit_count}
use Rattle.grid.specs.Cells.{row_map, Sized}
use Rattle.grid.proofs.MarkLaws.{map_length, map_take}
use Rattle.contract.specs.Res.{Res, refused}
use Rattle.contract.specs.Contract.{Contract, number_of, entries_in}
use Rattle.contract.specs.Valid.{in_range, within_limit, rises}
use Rattle.contract.specs.Serialize.{map_of, grid_bytes, body_bytes, serialize, record_of}
use Rattle.contract.specs.declared.Form.{Form}
use Rattle.contract.specs.declared.Form.TheVariants.{Ladder, UnitPrices, Table}
use Rattle.contract.specs.declared.Header.{Header}
use Rattle.contract.specs.declared.Refusal.{Refusal}
use Rattle.contract.specs.declared.Refusal.TheVariants.{Short}
use Rattle.contract.proofs.Lengths.{digits_all_length, bits_are, grid_length}
use Rattle.area.specs.Puts.{Puts}
use Rattle.record.specs.View.Write.{items_in, contract_with, Counted, Shaped, Segmented, Tabled, head_bytes, Run, run_bytes, grid_with, Mapped, Replies}
use Rattle.record.proofs.PutLaws.{each_none, each_stated, run_length}
use Rattle.record.proofs.CountLaws.{items_length}

-- ---- replies

pub refuses : (e : Refusal) {said : Res (List ℕ)} {out : List ℕ} → said ≡ refused (number_of e) → Replies said out (Err e) out
refuses e h = record { answer = rw h; bytes_after = rw h }

-- at the exit of a `?`
pub refuses_on : (e : Refusal) {said : Res (List ℕ)} {out : List ℕ} {r : Result ℕ Refusal} → said ≡ refused (number_of e) → IsErrAnd r (λ d. d ≡ e) → Replies said out r out
refuses_on e {r = r} h q = let p = err_from_is_err_and r q in rw (p.1, p.2) (refuses e h)

-- a contract that passed every test but the output area's, and its record
pub record Ready (k : Contract) (bytes : List ℕ) : Type 0 where
  pub within : within_limit k ≡ true
  pub costs_rise : rises k.form k.units k.costs ≡ true
  pub values_rise : rises k.form k.units k.values ≡ true
  pub bytes_are : serialize k ≡ bytes

module _ {k : Contract} {bytes out : List ℕ} (r : Ready k bytes) where
  pub short : length out < length bytes → Replies (record_of k (length out)) out (Err Short) out
  unfolding record_of
  short h = refuses Short (rw (r.within, r.costs_rise, r.values_rise, r.bytes_are, lt-leb (length bytes) (length out) h))

  pub written : {out' : List ℕ} {n : ℕ} → length bytes ≤ length out → Puts bytes out 0 n out' → Replies (record_of k (length out)) out (Ok n) out'
  unfolding record_of
  written h p =
      rw (r.within, r.costs_rise, r.values_rise, r.bytes_are, le-leb (length bytes) (length out) h)
      (record { answer = rw (p.next, zero-add); bytes_after = rw (p.stores, sets-eq bytes out 0 (omega arith), zero-add) })

pub over_limit : (k : Contract) (room : ℕ) → within_limit k ≡ false → record_of k room ≡ refused 4
unfolding record_of
over_limit k room e = rw e

-- ---- counts in range, by the form

counted_items : {h : Header} {us cs vs : List ℕ} → Counted h us cs vs → length us ≡ items_in h.form h.count
counted_items {h} c = ap length c.units_are ∙ items_length h.form h.count h.units c.eight (rw (← c.units_are) c.range)

pub shaped : {h : Header} {us cs vs : List ℕ} (amounts : List ℕ) → Counted h us cs vs → length amounts ≡ entries_in h.form h.count h.units → Shaped h.form us amounts
unfolding in_range
shaped {h} {us} amounts c l = go h.form refl
  where
    go : (f : Form) → h.form ≡ f → Shaped h.form us amounts
    go Ladder e = rw e (rw e at c.units_are)
    go UnitPrices e =
        let ((_, units), _) = simp and-eq-true_iff at (rw e at c.range) in
        rw e (units, rw e at (counted_items c) ∙ sym (rw e at l))
    go Table e = rw e tt

-- ---- a ladder or unit prices

-- what is known of segments that are to be stored
pub record Storable (h : Header) (us cs vs : List ℕ) : Type 0 where
  pub run : Run us cs vs
  pub few_units : length us ≤ 8
  pub few_costs : length cs ≤ 1000
  pub ready : Ready (contract_with h us cs vs) (head_bytes h ++ run_bytes us cs vs)

pub storable : {h : Header} {us cs vs : List ℕ} → Segmented h us cs vs → Storable h us cs vs
unfolding in_range rises serialize body_bytes head_bytes map_of
storable {h} {us} {cs} {vs} s = go s.is_run
  where
    c : Counted h us cs vs
    c = s.counts

    same : length vs ≡ length cs
    same = c.values_counted ∙ sym c.costs_counted

    shape : Shaped h.form us cs
    shape = shaped cs c c.costs_counted

    go : (h.form ≡ Ladder) ⊎ (h.form ≡ UnitPrices) → Storable h us cs vs
    go (inl e) =
        let (_, most) = simp and-eq-true_iff at (rw e at c.range) in
        let none : us ≡ [] = rw e at shape in
        let costs : length cs ≡ h.count = rw e at c.costs_counted in
        record {
          run = record { values_counted = same; stated = inl none };
          few_units = omega (arith, ap length none);
          few_costs = omega (arith, leb-true h.count 1000 most);
          ready = record { within = s.within; costs_rise = rw e; values_rise = rw e; bytes_are = rw (e, none, each_none, costs) (simp append_assoc) };
        }
    go (inr e) =
        let (((low, most), _), _) = simp and-eq-true_iff at (rw e at c.range) in
        let items : length us ≡ length cs = (rw e at shape).1 in
        let costs : length cs ≡ h.count = rw e at c.costs_counted in
        let some : 0 < length us = omega (arith, ltb-true 0 h.count low) in
        record {
          run = record { values_counted = same; stated = inr items };
          few_units = omega (arith, leb-true h.count 8 most);
          few_costs = omega (arith, leb-true h.count 8 most);
          ready =
              record {
                within = s.within;
                costs_rise = rw e;
                values_rise = rw e;
                bytes_are = rw (e, ← items, each_stated, lt-ltb 0 (length us) some, ← costs, ← items) (simp append_assoc);
              };
        }

pub segments_length : {h : Header} {us cs vs : List ℕ} → Storable h us cs vs → length (head_bytes h ++ run_bytes us cs vs) ≡ length (head_bytes h) + length us + 8 * length cs
segments_length {h} {us} {cs} {vs} s = omega (arith, run_length us cs vs s.run, length-append (head_bytes h) (run_bytes us cs vs))

-- ---- a table

-- what is known of a table
pub record Laid (h : Header) (us cs vs : List ℕ) : Type 0 where
  pub same : length vs ≡ length cs
  pub few_units : length us ≤ 4
  pub few_rows : length cs ≤ 128
  pub rows_are : length cs ≡ rows_of us
  pub bytes_are : serialize (contract_with h us cs vs) ≡ head_bytes h ++ flat_map (digits 1) us ++ grid_bytes us cs ++ grid_bytes us vs
  pub costs_rising : rises h.form us cs ≡ rising us cs (length cs)
  pub values_rising : rises h.form us vs ≡ rising us vs (length vs)

pub laid : {h : Header} {us cs vs : List ℕ} → Tabled h us cs vs → Laid h us cs vs
unfolding in_range rises serialize body_bytes head_bytes map_of
laid {h} {us} {cs} t =
    let e = t.is_table in
    let c = t.counts in
    let (((_, most), _), rows) = simp and-eq-true_iff at (rw e at c.range) in
    let counted : us ≡ take h.count h.units = rw e at c.units_are in
    let items : length us ≡ h.count = rw e at (counted_items c) in
    let costs : length cs ≡ rows_of us = rw counted (rw e at c.costs_counted) in
    record {
      same = c.values_counted ∙ sym c.costs_counted;
      few_units = omega (arith, leb-true h.count 4 most);
      few_rows = omega (arith, leb-true (rows_of us) 128 rows);
      rows_are = costs;
      bytes_are = rw (e, ← items) (simp append_assoc);
      costs_rising = rw e;
      values_rising = rw e;
    }

module _ {h : Header} {us cs vs : List ℕ} (t : Tabled h us cs vs) (room : ℕ) where
  pub costs_fall : rising us cs (length cs) ≡ false → record_of (contract_with h us cs vs) room ≡ refused 6
  unfolding record_of
  costs_fall e = rw (t.within, (laid t).costs_rising, e)

  pub values_fall : rising us cs (length cs) ≡ true → rising us vs (length vs) ≡ false → record_of (contract_with h us cs vs) room ≡ refused 6
  unfolding record_of
  values_fall c e = rw (t.within, (laid t).costs_rising, c, (laid t).values_rising, e)

-- costs, or values, as grid functions ask for them
pub table_sized : {h : Header} {us cs vs : List ℕ} → Tabled h us cs vs → (cells : List ℕ) → length cells ≡ length cs → Sized us cells
table_sized t cells same =
    let l = laid t in
    record { small = record { items = l.few_units; rows = omega (arith, l.rows_are, l.few_rows) }; long = same ∙ l.rows_are }

-- the front of a map of 16 bytes is the map of the rows
module _ {h : Header} {us cs vs map : List ℕ} (t : Tabled h us cs vs) (cells : List ℕ) (same : length cells ≡ length cs) (e : map ≡ row_map us cells (length cells) 16) where
  pub map_front : take (map_size (length cs)) map ≡ row_map us cells (length cells) (map_size (length cells))
  map_front = rw (e, ← same) (map_take us cells (length cells) (map_size (length cells)) 16 (omega (arith, laid t)))

-- a table's record
abbrev pub table_bytes : Header → List ℕ → List ℕ → List ℕ → List ℕ → List ℕ → List ℕ
table_bytes h us cost_map cs value_map vs = head_bytes h ++ flat_map (digits 1) us ++ grid_with cost_map cs ++ grid_with value_map vs

module _ (us cells map : List ℕ) (e : map ≡ row_map us cells (length cells) (map_size (length cells))) where
  grid_is : grid_with map cells ≡ grid_bytes us cells
  unfolding grid_with grid_bytes
  grid_is = rw e

  pub grid_size : length (grid_with map cells) ≡ length map + 4 * bit_count map
  grid_size = rw (grid_is, e, grid_length us cells (length cells) refl, map_length, bits_are)

  pub map_size_lem : length map ≡ map_size (length cells)
  map_size_lem = rw (e, map_length)

module _ {h : Header} {us cost_map cs value_map vs : List ℕ} (m : Mapped h us cost_map cs value_map vs) where
  pub table_ready : Ready (contract_with h us cs vs) (table_bytes h us cost_map cs value_map vs)
  table_ready =
      let l = laid m.table in
      record {
        within = m.table.within;
        costs_rise = l.costs_rising ∙ m.costs_rise;
        values_rise = l.values_rising ∙ m.values_rise;
        bytes_are = rw (grid_is us cs cost_map m.cost_map_is, grid_is us vs value_map m.value_map_is) l.bytes_are;
      }

  pub table_length : length (table_bytes h us cost_map cs value_map vs)
      ≡ length (head_bytes h) + length us + (length cost_map + 4 * bit_count cost_map) + (length value_map + 4 * bit_count value_map)
  table_length = simp (length-append, digits_all_length, grid_size us cs cost_map m.cost_map_is, grid_size us vs value_map m.value_map_is) (omega arith)
