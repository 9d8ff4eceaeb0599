-- `line::is_step` meets its contract: each return goes by the tests before it. Assumes nothing.
use borrow.Author.Tests.{le-leb, lt-leb}
use Rattle.line.specs.CheckCode.{passes}
use Rattle.line.proofs.is_step.Goals as goal

pub returns-then-q-p : goal.returns-then-q-p
unfolding passes
returns-then-q-p c = rw (lt-leb _ _ c.if-q-p.true)

pub returns-then-sides-q : goal.returns-then-sides-q
unfolding passes
returns-then-sides-q c = rw (le-leb _ _ c.if-q-p.false, lt-leb _ _ c.if-sides-q.true)

pub returns-then-not-reaches : goal.returns-then-not-reaches
unfolding passes
returns-then-not-reaches c =
    rw (le-leb _ _ c.if-q-p.false, le-leb _ _ c.if-sides-q.false, ← c.reaches.ensures, c.if-not-reaches.true)

pub returns : goal.returns
unfolding passes
returns c =
    rw (le-leb _ _ c.if-q-p.false, le-leb _ _ c.if-sides-q.false, ← c.reaches.ensures, c.if-not-reaches.false)
    c.affords.ensures
