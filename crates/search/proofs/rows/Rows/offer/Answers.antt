use Rattle.std.proofs.Common.{◌<◌}
use native.Mathlib.Omega.{arith}
use Rattle.grid.specs.Rows.{rows_of}
use Rattle.search.specs.Layers.{mark}
use Rattle.search.proofs.OfferLaws.{offering_start, offering_row, offering_next}
use Rattle.search.proofs.ListLaws.{listing_next}
use Rattle.search.proofs.rows.Rows.offer.Goals as goal

pub loop-row-init : goal.loop-row-init
loop-row-init c = (offering_start _ _ c.args.b c.args.need _ c.args.next.now c.requires.3.next_long c.requires.0 c.requires.1, c.requires.3)

pub loop-row-preserved : goal.loop-row-preserved
loop-row-preserved c =
    let x = c.args in
    let l = c.loop-row in
    let held = x.self.now.searchable.units_are in
    let few : x.b < 128 = omega (arith, c.requires.0, held.few) in
    let row : c.in-Some.a < rows_of x.self.now.units.now = omega (arith, c.requires.0, offering_row _ _ _ _ _ l.invariant.0 c.in-Some.is) in
    let low : c.min.result < mark = omega (arith, c.min.ensures, c.requires.2) in
    (offering_next _ _ x.b x.need _ l.invariant.0 c.in-Some.is few c.next_down-row.ensures c.min.ensures, listing_next l.invariant.1 held.few c.in-Some.a row low c.list_row-count.ensures)
