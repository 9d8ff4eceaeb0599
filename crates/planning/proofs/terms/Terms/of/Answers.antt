-- `planning::terms::Terms::of` meets its contract, by what was read. Assumes nothing.
use Rattle.planning.proofs.TermsLaws.{rows_few}
use Rattle.planning.proofs.terms.Terms.of.Goals as goal

pub entry_count-n-requires : goal.entry_count-n-requires
entry_count-n-requires c = rw c.from.ensures (rows_few _ _ _ c.requires.stands)
