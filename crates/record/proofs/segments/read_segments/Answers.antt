use mathlib.Core.Path.{◌∙◌}
use borrow.Author.Tests.{le-leb, lt-leb}
use Rattle.area.proofs.Laws.{column_length}
use Rattle.contract.specs.Segments.{segment_contract}
use Rattle.contract.specs.declared.Refusal.TheVariants.{Short}
use Rattle.record.specs.View.Head.{head_of}
use Rattle.record.proofs.Laws.{got, lost}
use Rattle.record.proofs.AnswerLaws.{refuses, refuses_on, accepts}
use Rattle.record.proofs.SegmentLaws.{said_stopped, said_found, segment_header}
use Rattle.record.specs.contracts.segments.read_segments.{PRICED-type}
use denote.Param.{number}
use mathlib.Core.Bool.{Bool}
use Rattle.record.proofs.segments.read_segments.Given as given
use Rattle.record.proofs.segments.read_segments.Goals as goal
use Rattle.record.proofs.segments.read_segments.Goals.{then-costs-n-via-then-costs-n, then-costs-n-via-else-costs-n+then-values-n}

-- the const parameter
abbrev priced : given.Over → Bool
priced g = PRICED-type (number g.row.PRICED)

pub returns-in_err-run : goal.returns-in_err-run
returns-in_err-run g c = refuses_on _ _ _ (said_stopped _ _ _ _ _ (lost c.in_err-run.ensures)) c.from_residual.ensures.1

pub returns-then-costs-n : goal.returns-then-costs-n
returns-then-costs-n g c =
    let said = said_found _ _ _ _ _ _ (got c.in_ok-run.ensures) in
    elim c.then-costs-n.branch [
      | then-costs-n-via-then-costs-n w ↦ refuses _ _ Short (said ∙ simp (lt-leb _ _ w.if-costs-n.true))
      | then-costs-n-via-else-costs-n+then-values-n w ↦ refuses _ _ Short (said ∙ simp (le-leb _ _ w.if-costs-n.false, lt-leb _ _ w.if-values-n.true))
    ]

pub returns : goal.returns
unfolding segment_contract
returns g c =
    let a = c.args in
    let r = c.in_ok-run.run' in
    let k = segment_contract (priced g) a.s.now (head_of a.h) r.count r.first in
    let f = c.fill_segments.ensures in
    accepts k _ _
    (said_found _ _ _ _ _ _ (got c.in_ok-run.ensures) ∙ simp (le-leb _ _ c.if-costs-n.false, le-leb _ _ c.if-values-n.false))
    (c.header_of.ensures ∙ rw c.segment_units.ensures (segment_header (priced g) a.s.now (head_of a.h) r.count r.first c.requires))
    (rw column_length f.0)
    (rw column_length f.1)
