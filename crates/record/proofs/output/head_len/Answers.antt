use native.Mathlib.Omega.{arith}
use Rattle.record.proofs.PutLaws.{head_length}
use Rattle.record.proofs.output.head_len.Goals as goal

pub returns : goal.returns
returns c = omega (arith, head_length c.args.header)
