use native.Mathlib.Omega.{arith}
use Rattle.area.proofs.Laws.{digits_length}
use Rattle.record.specs.View.Write.{head_bytes}
use Rattle.area.proofs.PutLaws.{puts_then}
use Rattle.record.proofs.PutLaws.{head_length}
use Rattle.record.proofs.output.put_head.Goals as goal

pub put-i-requires : goal.put-i-requires
put-i-requires c = omega (arith, head_length c.args.header)

pub put_money-j-requires : goal.put_money-j-requires
put_money-j-requires c = omega (arith, head_length c.args.header, digits_length 2 c.map_of.result)

pub put_money-k-requires : goal.put_money-k-requires
put_money-k-requires c = omega (arith, head_length c.args.header, digits_length 2 c.map_of.result)

pub put_money-l-requires : goal.put_money-l-requires
put_money-l-requires c = omega (arith, head_length c.args.header, digits_length 2 c.map_of.result)

pub put_count-requires : goal.put_count-requires
put_count-requires c = omega (arith, head_length c.args.header, digits_length 2 c.map_of.result)

pub returns : goal.returns
unfolding head_bytes
returns c =
    let map = rw c.map_of.ensures at c.put-i.ensures in
    let price = puts_then map c.put_money-j.ensures in
    let supplier = puts_then price c.put_money-k.ensures in
    let buyer = puts_then supplier c.put_money-l.ensures in
    puts_then buyer c.put_count.ensures
