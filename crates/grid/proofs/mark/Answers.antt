use mathlib.Core.Path.{◌≡◌, refl, sym, ◌∙◌}
use native.Mathlib.Nat.{add-sub_cancel}
use native.Mathlib.Numerals.{add-one}
use native.Mathlib.Omega.{arith}
use mathlib.Core.Bool.{cond, not}
use borrow.Author.Tests.{eq-eqb, ne_eqb}
use lib.Dec.{eqb}
use lib.ListN.{get_or}
use Rattle.area.specs.Entries.{up_to}
use Rattle.grid.specs.Rows.{largest_below, rising}
use Rattle.grid.specs.Map.{marked, packed}
use Rattle.grid.specs.Cells.{given, row_map}
use Rattle.grid.proofs.BelowLaws.{largest_all, row_at}
use Rattle.grid.proofs.MarkLaws.{map_rest, map_turn}
use Rattle.grid.proofs.mark.Goals as goal
use Rattle.grid.proofs.mark.Goals.{then-cell-below, else-cell-below}

pub loop-r-init : goal.loop-r-init
unfolding row_map up_to packed given rising
loop-r-init c = (refl, refl, λ h. absurd (omega arith))

pub largest_below-below-requires : goal.largest_below-below-requires
largest_below-below-requires c =
    row_at c.args.units.now c.strides_of-strides.result c.args.cells.now c.loop-r.r c.requires.small c.strides_of-strides.ensures c.loop-r-test.true (c.all_units-words.ensures.word_at c.loop-r.r (omega (arith, c.requires.long))) c.loop-r.invariant.2

pub mark_row-requires : goal.mark_row-requires
mark_row-requires c = rw c.loop-r.invariant.0 (map_rest _ _ c.loop-r.r 16)

pub loop-r-preserved : goal.loop-r-preserved
unfolding rising
loop-r-preserved c =
    let us = c.args.units.now in
    let cells = c.args.cells.now in
    let l = c.loop-r in
    let below : c.largest_below-below.result ≡ largest_below us cells l.r =
    c.largest_below-below.ensures ∙ rw (c.all_units-words.ensures.word_at l.r (omega (arith, c.requires.long))) (largest_all us c.strides_of-strides.result cells l.r c.requires.small c.strides_of-strides.ensures) in
    let turned : c.if-cell-below.map ≡ cond (not (eqb (get_or cells l.r 0) c.largest_below-below.result)) (marked l.map l.r) l.map =
    elim c.if-cell-below.branch [
      | then-cell-below w ↦ w.map-is ∙ w.mark_row.ensures ∙ rw (ne_eqb _ _ w.if-cell-below.true)
      | else-cell-below w ↦ w.map-is ∙ rw (eq-eqb _ _ w.if-cell-below.false)
    ] in (
      turned ∙ rw (l.invariant.0, below) (sym (map_turn us cells l.r 16)),
      rw (l.invariant.1, below, add-one),
      λ _. rw (add-sub_cancel l.r 1),
    )
