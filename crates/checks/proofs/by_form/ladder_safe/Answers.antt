-- `checks::by_form::ladder_safe` meets its contract, by what was found in the record. Assumes nothing.
use Rattle.planning.proofs.LadderFound.{lies}
use Rattle.checks.proofs.CheckLaws.{held_entries}
use Rattle.checks.proofs.by_form.ladder_safe.Goals as goal

pub check-requires : goal.check-requires
check-requires c =
    let b = c.args.plan.now in
    let e = held_entries b.count b.places.now b.sums.now b.held in
    rw c.ladder_of.ensures (lies c.args.bytes.now c.args.l c.requires, e.0, e.1)
