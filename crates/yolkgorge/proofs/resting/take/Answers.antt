-- `yolkgorge::resting::take` meets its contract, by the contract of its callee. Assumes nothing.
use Rattle.yolkgorge.specs.SessionBytes.{session_in}
use Rattle.yolkgorge.proofs.resting.take.Goals as goal

pub returns : goal.returns
unfolding session_in
returns c = rw c.load.ensures
