use Rattle.record.proofs.Laws.{got, lost}
use Rattle.record.proofs.FindLaws.{ladder_refused, ladder_found, finds_on}
use Rattle.record.proofs.rises.find_ladder.Goals as goal

pub returns-in_err-run : goal.returns-in_err-run
returns-in_err-run c = finds_on _ _ _ (ladder_refused c.requires (lost c.in_err-run.ensures)) c.from_residual.ensures.1

pub returns : goal.returns
returns c = ladder_found c.requires (got c.in_ok-run.ensures) c.in_ok-run.ensures.known
