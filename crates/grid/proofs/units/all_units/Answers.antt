use Prim.Native.Nat.{◌+◌}
use native.Mathlib.Omega.{arith}
use borrow.Author.Rules.{rules}
use Rattle.grid.proofs.UnitLaws.{packing_none, packing_start, next_rows, packing_addable, packing_turn}
use Rattle.grid.proofs.units.all_units.Goals as goal

pub returns-then-n-eq0 : goal.returns-then-n-eq0
returns-then-n-eq0 c = packing_none c.args.units.now c.row_numbers-held.result c.row_numbers-held.ensures c.if-n-eq0.true

pub loop-j-init : goal.loop-j-init
loop-j-init c = packing_start c.args.units.now c.row_numbers-held.result (c.from-stride.result + 1) (search rules) c.row_numbers-held.ensures c.requires (omega arith) (rw c.from-stride.ensures)

pub overflow_mul-end : goal.overflow_mul-end
overflow_mul-end c = omega (arith, next_rows c.requires c.loop-j.invariant c.loop-j-test.true {n = c.from.result + 1} (rw c.from.ensures))

pub add_item-requires : goal.add_item-requires
add_item-requires c = packing_addable c.requires c.loop-j.invariant c.loop-j-test.true (rw c.from.ensures)

pub loop-j-preserved : goal.loop-j-preserved
loop-j-preserved c = packing_turn c.requires c.loop-j.invariant c.loop-j-test.true (rw c.from.ensures) c.add_item.ensures
