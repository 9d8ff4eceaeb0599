use native.Mathlib.Omega.{arith}
use Rattle.area.specs.Entries.{num}
use Rattle.area.proofs.numbers.U16Entry.load.Goals as goal

pub returns : goal.returns
unfolding num
returns c = omega arith
