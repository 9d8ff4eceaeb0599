-- `text::put_plan` puts the word, the count, and the lines of the steps.
use native.Mathlib.Omega.{arith}
use Rattle.area.proofs.PutLaws.{puts_then, puts_length}
use Rattle.text.specs.Text.{text}
use Rattle.text.proofs.Fields.{decimal_short}
use Rattle.text.proofs.put_plan.Goals as goal

pub put_number-at-requires : goal.put_number-at-requires
put_number-at-requires c =
    let f = decimal_short 4 c.args.count c.requires.numbers in
    omega (arith, f, c.requires.fits, c.put_bytes-word.ensures.next, puts_length c.put_bytes-word.ensures)

pub put_steps-requires : goal.put_steps-requires
put_steps-requires c =
    let f = decimal_short 4 c.args.count c.requires.numbers in
    record {
      in_places = c.requires.in_places;
      in_sums = c.requires.in_sums;
      numbers = c.requires.numbers;
      fits = omega (arith, f, c.requires.fits, c.put_bytes-word.ensures.next, c.put_number-at.ensures.value, puts_length c.put_bytes-word.ensures, puts_length c.put_number-at.ensures.puts);
    }

pub returns : goal.returns
unfolding text
returns c =
    record {
      puts = puts_then (puts_then c.put_bytes-word.ensures c.put_number-at.ensures.puts) c.put_steps.ensures.puts;
      upper_bound = c.put_steps.ensures.upper_bound;
    }
