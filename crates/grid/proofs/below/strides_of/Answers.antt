use mathlib.Core.Path.{refl}
use Prim.Native.Nat.{◌+◌}
use native.Mathlib.Omega.{arith}
use Rattle.grid.proofs.BelowLaws.{striding_start, striding_turn, striding_done, stride_le}
use Rattle.grid.proofs.below.strides_of.Goals as goal

pub loop-i-init : goal.loop-i-init
loop-i-init c = striding_start c.args.units.now _ refl refl

pub overflow_mul-strides : goal.overflow_mul-strides
overflow_mul-strides c = omega (arith, stride_le {n = c.from.result + 1} c.requires c.loop-i.invariant (omega arith) (rw c.from.ensures))

pub loop-i-preserved : goal.loop-i-preserved
loop-i-preserved c = striding_turn c.requires c.loop-i.invariant (omega arith) (rw c.from.ensures)

pub returns : goal.returns
returns c = striding_done c.loop-i.invariant (omega arith)
