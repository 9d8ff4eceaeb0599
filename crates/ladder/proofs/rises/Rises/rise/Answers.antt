-- `ladder::rises::Rises::rise` meets its contract: the number in a part of the record is the record's own. Assumes nothing.
use mathlib.Core.Path.{◌∙◌}
use Rattle.area.proofs.Laws.{part_num}
use Rattle.ladder.proofs.rises.Rises.rise.Goals as goal

pub returns : goal.returns
returns c = c.num.ensures ∙ part_num 4 c.args.self.now.bytes.now c.args.i c.requires
