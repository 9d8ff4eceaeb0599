use mathlib.Core.Path.{sym, ◌∙◌}
use mathlib.Core.Logic.{⊎_elim}
use Rattle.contract.specs.Valid.{amounts_within}
use Rattle.record.proofs.TestLaws.{ladder_within, prices_within}
use Rattle.record.proofs.writer.amounts_within.Goals as goal

pub returns-in-Ladder : goal.returns-in-Ladder
returns-in-Ladder c =
    ⊎_elim
    (λ e. rw e (c.total_within.ensures ∙ sym (ladder_within _ _ (rw e at c.requires))))
    (λ e. let s = rw e at c.requires in rw e (c.total_within.ensures ∙ sym (prices_within _ _ s.0 s.1)))
    c.in-Ladder.is

pub returns-in-Table : goal.returns-in-Table
unfolding amounts_within
returns-in-Table c = rw c.in-Table.is c.all_within.ensures
