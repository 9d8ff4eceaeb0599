use mathlib.Core.Path.{sym}
use native.Mathlib.Omega.{arith}
use Rattle.record.proofs.LadderLaws.{cost_over, value_over, both_kept, reached}
use Rattle.record.proofs.segments.ladder.Goals as goal
use Rattle.record.proofs.segments.ladder.Goals.{then-limit-d-via-then-limit-d, then-limit-d-via-else-limit-d+then-limit-d-2}

pub returns-then-limit-d : goal.returns-then-limit-d
returns-then-limit-d c =
    elim c.then-limit-d.branch [
      | then-limit-d-via-then-limit-d w ↦ record { meets = sym (cost_over c.requires c.totals-d.ensures (omega arith)); known = tt }
      | then-limit-d-via-else-limit-d+then-limit-d-2 w ↦ record { meets = sym (value_over c.requires c.totals-d.ensures (omega arith)); known = tt }
    ]

pub returns : goal.returns
returns c =
    record {
      meets = sym (both_kept c.requires c.totals-d.ensures (omega arith) (omega arith));
      known = reached c.requires c.totals-d.ensures (omega arith) (omega arith);
    }
