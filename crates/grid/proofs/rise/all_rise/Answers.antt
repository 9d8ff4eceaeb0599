use mathlib.Core.Path.{◌∙◌}
use Rattle.grid.proofs.RiseLaws.{risen_single}
use Rattle.grid.proofs.rise.all_rise.Goals as goal

pub returns-then-units-lt2 : goal.returns-then-units-lt2
returns-then-units-lt2 c = risen_single c.requires c.if-units-lt2.true (c.run_rises.ensures ∙ rw c.count.ensures)
