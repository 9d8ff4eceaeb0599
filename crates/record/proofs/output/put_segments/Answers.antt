-- The loop's invariant: storing the segments from segment i on, from index j on, stores all of them.
use Rattle.area.proofs.PutLaws.{left_turn, left_done}
use Rattle.record.proofs.PutLaws.{run_turn, run_room, run_none}
use Rattle.record.proofs.output.put_segments.Goals as goal

pub put_segment-j-requires : goal.put_segment-j-requires
put_segment-j-requires c = run_room _ _ _ c.requires.0 _ c.loop-i-test.true c.loop-i.invariant c.requires.1

pub loop-i-preserved : goal.loop-i-preserved
loop-i-preserved c = (left_turn _ _ c.loop-i.invariant (run_turn _ _ _ c.requires.0 _ c.loop-i-test.true) c.put_segment-j.ensures)

pub returns : goal.returns
returns c = left_done c.loop-i.invariant (run_none _ _ _ c.requires.0 _ c.loop-i-test.false)
