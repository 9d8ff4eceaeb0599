-- `line::begin` meets its contract. Assumes nothing.
use Rattle.line.proofs.FirstLaws.{begun_none, begun_one}
use Rattle.line.proofs.begin.Goals as goal

pub returns-then-n-eq0 : goal.returns-then-n-eq0
returns-then-n-eq0 c = begun_none _ _ c.first_count-n.ensures _ _ c.if-n-eq0.true

pub returns : goal.returns
returns c =
    begun_one _ _ c.first_count-n.ensures _ _ c.if-n-eq0.false _ _ c.store.ensures c.store-2.ensures c.requires.1 c.requires.2
