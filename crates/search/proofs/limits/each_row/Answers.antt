use Rattle.search.proofs.LimitLaws.{each_none}
use Rattle.search.proofs.limits.each_row.Goals as goal

pub loop-a-init : goal.loop-a-init
loop-a-init g c = rw c.requires.2 (each_none _ _)
