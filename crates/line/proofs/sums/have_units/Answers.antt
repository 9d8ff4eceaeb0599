-- `line::sums::have_units` meets its contract. Assumes nothing.
use mathlib.Core.Path.{ap, ◌∙◌}
use mathlib.Core.Bool.{not}
use Rattle.line.proofs.SegmentLaws.{none_empty}
use Rattle.line.proofs.sums.have_units.Goals as goal

pub returns : goal.returns
returns c = ap not c.contains.ensures.value ∙ none_empty c.args.units.now
