use mathlib.Core.Path.{◌≡◌, refl, sym, ap, ◌∙◌}
use mathlib.Core.Bool.{cond}
use Prim.Native.Nat.{ℕ, ◌+◌}
use native.Mathlib.Omega.{arith}
use borrow.Author.Tests.{eqb-true}
use lib.ListN.{get_or}
use Rattle.area.specs.Entries.{entries}
use Rattle.grid.specs.Rows.{largest_below}
use Rattle.grid.specs.Map.{bit_at, stands}
use Rattle.grid.proofs.BelowLaws.{largest_all, row_at}
use Rattle.grid.proofs.MapLaws.{not_standing, standing_le}
use Rattle.grid.proofs.FillLaws.{filling_start, filling_turn, filling_length}
use Rattle.grid.proofs.fill_rows.Goals as goal
use Rattle.grid.proofs.fill_rows.Goals.{then-stands, else-stands}

pub loop-r-init : goal.loop-r-init
loop-r-init c = filling_start _ _ _ _

pub largest_below-below-requires : goal.largest_below-below-requires
largest_below-below-requires c =
    row_at c.args.units.now c.strides_of-strides.result c.loop-r.cells c.loop-r.r c.requires.0 c.strides_of-strides.ensures (omega (arith, filling_length c.loop-r.invariant)) (c.requires.1.word_at c.loop-r.r (omega arith)) c.loop-r.invariant.last_is

pub overflow_add-used : goal.overflow_add-used
overflow_add-used c = omega (arith, standing_le c.args.map.now c.loop-r.r, c.loop-r.invariant.used_is)

pub loop-r-preserved : goal.loop-r-preserved
loop-r-preserved c =
    let us = c.args.units.now in
    let map = c.args.map.now in
    let l = c.loop-r in
    let below : c.largest_below-below.result ≡ largest_below us l.cells l.r = c.largest_below-below.ensures ∙ rw (c.requires.1.word_at l.r (omega arith)) (largest_all us c.strides_of-strides.result l.cells l.r c.requires.0 c.strides_of-strides.ensures) in
    let cell : c.if-stands.last ≡ cond (stands map l.r) (get_or (entries 4 c.args.given.now) l.used 0) c.largest_below-below.result =
    elim c.if-stands.branch [
      | then-stands w ↦ w.last-is ∙ rw (← c.stands.ensures, w.if-stands.true) w.entry-last.ensures
      | else-stands w ↦ w.last-is ∙ rw (← c.stands.ensures, w.if-stands.false)
    ] in
    let used : c.if-stands.used ≡ l.used + bit_at map l.r =
    elim c.if-stands.branch [
      | then-stands w ↦ w.used-is ∙ ap (λ (n : ℕ). l.used + n) (sym (eqb-true _ _ (sym c.stands.ensures ∙ w.if-stands.true)))
      | else-stands w ↦ omega (arith, w.used-is, not_standing map l.r (sym c.stands.ensures ∙ w.if-stands.false))
    ] in
    filling_turn l.invariant (omega (arith, filling_length l.invariant)) below cell used refl
