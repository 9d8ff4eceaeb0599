use native.Mathlib.Omega.{arith}
use Rattle.area.proofs.PutLaws.{puts_then}
use Rattle.record.proofs.PutLaws.{run_length}
use Rattle.record.proofs.WriteLaws.{short, written, storable, segments_length}
use Rattle.record.proofs.writer.Contract.write_segments.Goals as goal

pub returns-then-out-n : goal.returns-then-out-n
returns-then-out-n c =
    let s = storable c.requires in
    short s.ready (omega (arith, segments_length s))

pub put_segments-requires : goal.put_segments-requires
put_segments-requires c =
    let s = storable c.requires in
    (s.run, omega (arith, run_length _ _ _ s.run))

pub returns : goal.returns
returns c =
    let s = storable c.requires in
    written s.ready (omega (arith, segments_length s)) (puts_then c.put_head-i.ensures c.put_segments.ensures)
