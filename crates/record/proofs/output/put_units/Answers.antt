-- The loop's invariant: storing the units from item i on, from index j on, stores all of them.
use native.Mathlib.Omega.{arith}
use Rattle.area.specs.Entries.{digits}
use Rattle.contract.proofs.Lengths.{digits_all_length}
use Rattle.area.proofs.PutLaws.{left_turn, left_room, left_done}
use Rattle.record.proofs.PutLaws.{flat_turn, flat_none}
use Rattle.record.proofs.output.put_units.Goals as goal

pub put_u8-j-requires : goal.put_u8-j-requires
unfolding digits
put_u8-j-requires c =
    left_room (digits 1 _) _ c.loop-n.invariant (flat_turn 1 _ _ c.loop-n-test.true) (omega (arith, c.requires, digits_all_length 1 c.args.units.now))

pub loop-n-preserved : goal.loop-n-preserved
loop-n-preserved c = (left_turn _ _ c.loop-n.invariant (flat_turn 1 _ _ c.loop-n-test.true) c.put_u8-j.ensures)

pub returns : goal.returns
returns c = left_done c.loop-n.invariant (flat_none 1 _ _ c.loop-n-test.false)
