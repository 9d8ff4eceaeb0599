-- `text::put_refusal` puts the word and the number.
use native.Mathlib.Omega.{arith}
use Rattle.area.proofs.PutLaws.{puts_then, puts_length}
use Rattle.text.specs.Text.{text}
use Rattle.text.proofs.Fields.{decimal_short}
use borrow.Author.Rules.{rules}
use Rattle.text.proofs.put_refusal.Goals as goal

pub put_number-requires : goal.put_number-requires
put_number-requires c =
    let f = decimal_short 9 c.args.number (search rules) in
    omega (arith, f, c.requires, c.put_bytes-at.ensures.next, puts_length c.put_bytes-at.ensures)

pub returns : goal.returns
unfolding text
returns c =
    let f = decimal_short 9 c.args.number (search rules) in
    record {
      puts = puts_then c.put_bytes-at.ensures c.put_number.ensures.puts;
      upper_bound =
          omega (arith, f, c.requires, c.put_bytes-at.ensures.next, c.put_number.ensures.value, puts_length c.put_bytes-at.ensures, puts_length c.put_number.ensures.puts);
    }
