use mathlib.Core.Path.{sym, ◌∙◌}
use mathlib.Core.Bool.{and-false}
use Rattle.record.proofs.WriteLaws.{shaped}
use Rattle.record.proofs.TestLaws.{within_is}
use Rattle.record.proofs.writer.Contract.within_limit.Goals as goal
use Rattle.record.proofs.writer.Contract.within_limit.Goals.{then-not-all_within-via-then-not-all_within, then-not-all_within-via-else-not-all_within+then-not-amounts_within}

pub amounts_within-requires : goal.amounts_within-requires
amounts_within-requires c = shaped _ c.args.self.counted c.args.self.counted.costs_counted

pub returns-then-not-all_within : goal.returns-then-not-all_within
returns-then-not-all_within c =
    rw within_is (
    elim c.then-not-all_within.branch [
      | then-not-all_within-via-then-not-all_within w ↦ rw (sym c.all_within.ensures ∙ w.if-not-all_within.true)
      | then-not-all_within-via-else-not-all_within+then-not-amounts_within w ↦ simp (sym w.amounts_within.ensures ∙ w.if-not-amounts_within.true, and-false)
    ])

pub amounts_within-requires-2 : goal.amounts_within-requires-2
amounts_within-requires-2 c = shaped _ c.args.self.counted c.args.self.counted.values_counted

pub returns : goal.returns
returns c =
    rw (within_is, sym c.all_within.ensures ∙ c.if-not-all_within.false, sym c.amounts_within.ensures ∙ c.if-not-amounts_within.false) c.amounts_within-2.ensures
