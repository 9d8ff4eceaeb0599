use mathlib.Core.Path.{sym, ◌∙◌}
use mathlib.Core.Bool.{and-false}
use native.Mathlib.Omega.{arith}
use borrow.Author.Tests.{le-leb, lt-ltb, le-ltb}
use lib.ListN.{length}
use Rattle.std.proofs.lemmas.Bool.Decides.{nat_tests}
use Rattle.contract.specs.Valid.{in_range}
use Rattle.record.proofs.counts.priced_items.Goals as goal
use Rattle.record.proofs.counts.priced_items.Goals.{then-is_empty-via-then-is_empty, then-is_empty-via-else-is_empty+then-not-units_in_range, then-is_empty-via-else-is_empty+else-not-units_in_range+then-not-sum_in_range}

pub returns-then-is_empty : goal.returns-then-is_empty
unfolding in_range
returns-then-is_empty c =
    elim c.then-is_empty.branch [
      | then-is_empty-via-then-is_empty w ↦ simp (le-ltb 0 (length c.args.units.now) (grind (arith, nat_tests)))
      | then-is_empty-via-else-is_empty+then-not-units_in_range w ↦ simp (sym w.units_in_range.ensures ∙ w.if-not-units_in_range.true, and-false)
      | then-is_empty-via-else-is_empty+else-not-units_in_range+then-not-sum_in_range w ↦ simp (sym w.sum_in_range.ensures ∙ w.if-not-sum_in_range.true, and-false)
    ]

pub returns : goal.returns
unfolding in_range
returns c =
    rw (lt-ltb 0 (length c.args.units.now) (grind (arith, nat_tests)), le-leb _ _ c.requires, sym c.units_in_range.ensures ∙ c.if-not-units_in_range.false, sym c.sum_in_range.ensures ∙ c.if-not-sum_in_range.false)
