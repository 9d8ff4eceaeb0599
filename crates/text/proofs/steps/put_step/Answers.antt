-- `text::put_step` puts a line of three fields.
use native.Mathlib.Omega.{arith}
use Rattle.area.proofs.PutLaws.{puts_then, puts_length}
use Rattle.text.specs.Text.{line}
use Rattle.text.proofs.Fields.{decimal_short}
use borrow.Author.Rules.{rules}
use Rattle.text.proofs.steps.put_step.Goals as goal

pub put_number-first-requires : goal.put_number-first-requires
put_number-first-requires c = let f = decimal_short 4 c.args.number (omega arith) in omega (arith, f, c.requires.0, c.requires.1)

pub put_number-second-requires : goal.put_number-second-requires
put_number-second-requires c =
    let f = decimal_short 4 c.args.number (omega (arith, c.requires.0)) in
    let g = decimal_short 4 c.args.place (search rules) in
    rw c.from.ensures (omega (arith, f, g, c.requires.1, c.put_number-first.ensures.value, puts_length c.put_number-first.ensures.puts))

pub put_number-requires : goal.put_number-requires
put_number-requires c =
    let f = decimal_short 4 c.args.number (omega (arith, c.requires.0)) in
    let g = decimal_short 4 c.args.place (search rules) in
    let h = decimal_short 9 c.args.paid (search rules) in
    omega (arith, f, g, h, c.requires.1, c.put_number-first.ensures.value, rw c.from.ensures at c.put_number-second.ensures.value, puts_length c.put_number-first.ensures.puts, puts_length c.put_number-second.ensures.puts)

pub returns : goal.returns
unfolding line
returns c = puts_then (puts_then c.put_number-first.ensures.puts (rw c.from.ensures at c.put_number-second.ensures.puts)) c.put_number.ensures.puts
