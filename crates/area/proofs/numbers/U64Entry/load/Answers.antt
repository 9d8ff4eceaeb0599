use native.Mathlib.Nat.{add_assoc}
use native.Mathlib.Omega.{arith}
use Rattle.area.specs.Entries.{num}
use Rattle.area.proofs.numbers.U64Entry.load.Goals as goal

pub returns : goal.returns
unfolding num
returns c = simp add_assoc (omega arith)
