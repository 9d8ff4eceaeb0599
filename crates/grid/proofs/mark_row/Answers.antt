use mathlib.Core.Path.{sym}
use native.Mathlib.Omega.{arith}
use lib.Seq.{set_out}
use Rattle.grid.specs.Map.{marked}
use Rattle.grid.proofs.MapLaws.{bits_clear}
use Rattle.grid.proofs.mark_row.Goals as goal

pub with_bit-requires : goal.with_bit-requires
with_bit-requires c = (bits_clear _ _ c.requires, omega arith)

pub returns-then-i-map : goal.returns-then-i-map
unfolding marked
returns-then-i-map c = rw c.with_bit.ensures

pub returns-else-i-map : goal.returns-else-i-map
unfolding marked
returns-else-i-map c = sym (set_out _ _ _ c.if-i-map.false)
