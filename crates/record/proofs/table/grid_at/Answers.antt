use mathlib.Core.Path.{sym, ◌∙◌}
use Prim.Native.Nat.{◌+◌, ◌*◌, ◌≤◌, ◌<◌}
use native.Mathlib.Omega.{arith}
use borrow.Author.Tests.{le-leb, lt-leb, eq-eqb, ne_eqb}
use lib.ListN.{length}
use Rattle.grid.specs.Map.{map_size, bit_count}
use Rattle.contract.specs.Table.{grid_at, part}
use Rattle.record.proofs.TableLaws.{map_counted}
use Rattle.record.proofs.CellLaws.{given_last}
use Rattle.record.proofs.table.grid_at.Goals as goal
use Rattle.record.proofs.table.grid_at.Goals.{then-s-b-via-then-s-b, then-s-b-via-else-s-b+then-s-b-2}

pub returns-then-s-b : goal.returns-then-s-b
unfolding grid_at
returns-then-s-b c =
    let a = c.args in
    elim c.then-s-b.branch [
      | then-s-b-via-then-s-b w ↦ record { meets = simp (lt-leb (a.map + map_size a.rows) (length a.s.now) (omega arith)); known = tt }
      | then-s-b-via-else-s-b+then-s-b-2 w ↦ record { meets = simp (lt-leb (a.map + map_size a.rows) (length a.s.now) (omega arith)); known = tt }
    ]

pub returns-then-bits_from-ne0 : goal.returns-then-bits_from-ne0
unfolding grid_at
returns-then-bits_from-ne0 c =
    let a = c.args in
    record {
      meets = simp (le-leb (a.map + map_size a.rows) (length a.s.now) (omega arith), ne_eqb _ _ (λ q. c.if-bits_from-ne0.true (c.bits_from.ensures ∙ q)));
      known = tt;
    }

pub returns-then-s-cells : goal.returns-then-s-cells
unfolding grid_at
returns-then-s-cells c =
    let a = c.args in
    let i = a.map + map_size a.rows in
    let s = a.s.now in
    let h : length s < i + 4 * c.ones-n.result = omega arith in
    let over : length s < i + 4 * bit_count (part a.map i s) = rw c.ones-n.ensures.0 at h in
    record {
      meets = simp (le-leb i (length s) (omega arith), eq-eqb _ _ (sym c.bits_from.ensures ∙ c.if-bits_from-ne0.false), lt-leb _ _ over);
      known = tt;
    }

pub cells_within-requires : goal.cells_within-requires
cells_within-requires c = λ q. given_last c.args.units.now _ (sym c.given_rise-rises.ensures ∙ q)

pub returns : goal.returns
unfolding grid_at
returns c =
    let a = c.args in
    let i = a.map + map_size a.rows in
    let s = a.s.now in
    let e = c.ones-n.ensures.0 in
    let clear = sym c.bits_from.ensures ∙ c.if-bits_from-ne0.false in
    let h : i + 4 * c.ones-n.result ≤ length s = omega arith in
    let room : i + 4 * bit_count (part a.map i s) ≤ length s = rw e at h in
    let rows = map_counted s a.map a.rows (λ k. (c.shared_slice_known-1.given k).fits) (omega arith) clear in
    record {
      meets = rw e (simp (le-leb i (length s) (omega arith), eq-eqb _ _ clear, le-leb _ _ room, sym (rw e at c.cells_within.ensures) ∙ c.if-not-cells_within.false));
      known =
          record {
            within = record { map_end = omega arith; cells_end = omega arith; within = omega arith; counted = rw (← rows, ← e) (omega arith) };
            rises_is = c.given_rise-rises.ensures;
          };
    }

pub returns-then-not-cells_within : goal.returns-then-not-cells_within
unfolding grid_at
returns-then-not-cells_within c =
    let a = c.args in
    let i = a.map + map_size a.rows in
    let s = a.s.now in
    let e = c.ones-n.ensures.0 in
    let h : i + 4 * c.ones-n.result ≤ length s = omega arith in
    let room : i + 4 * bit_count (part a.map i s) ≤ length s = rw e at h in
    record {
      meets = simp (le-leb i (length s) (omega arith), eq-eqb _ _ (sym c.bits_from.ensures ∙ c.if-bits_from-ne0.false), le-leb _ _ room, sym (rw e at c.cells_within.ensures) ∙ c.if-not-cells_within.true);
      known = tt;
    }
