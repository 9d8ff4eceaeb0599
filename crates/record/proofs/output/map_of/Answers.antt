use Rattle.contract.specs.Serialize.{map_of}
use Rattle.record.proofs.output.map_of.Goals as goal

pub returns : goal.returns
unfolding map_of
returns c = rw (c.bit.ensures.0, c.bit-2.ensures.0, c.bit-3.ensures.0, c.form_bit.ensures.0)
