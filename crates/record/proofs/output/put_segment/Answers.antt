use native.Mathlib.Omega.{arith}
use lib.ListN.{length-append}
use Rattle.area.proofs.Laws.{digits_length}
use Rattle.area.proofs.PutLaws.{puts_then}
use Rattle.record.proofs.output.put_segment.Goals as goal

pub put-k-requires : goal.put-k-requires
put-k-requires c = omega (arith, simp (length-append, digits_length) at c.requires)

pub put-requires : goal.put-requires
put-requires c = omega (arith, simp (length-append, digits_length) at c.requires, digits_length 4 c.args.cost)

pub returns : goal.returns
returns c = puts_then (puts_then c.put_segment_units-j.ensures c.put-k.ensures) c.put.ensures
