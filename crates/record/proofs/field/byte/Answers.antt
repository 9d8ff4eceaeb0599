use mathlib.Core.Path.{refl}
use native.Mathlib.Omega.{arith}
use Rattle.area.specs.Entries.{num}
use Rattle.record.proofs.Laws.{read_field, read_short}
use Rattle.record.proofs.field.byte.Goals as goal

pub returns-then-s-at : goal.returns-then-s-at
returns-then-s-at c = read_short _ _ _ _ (omega arith)

pub returns : goal.returns
unfolding num
returns c = read_field _ _ _ _ (omega arith) (omega arith) refl
