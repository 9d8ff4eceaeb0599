-- `text::put_number` puts a field: the digits, and the byte after them.
use mathlib.Core.Path.{◌≡◌}
use native.Mathlib.Omega.{arith}
use lib.ListN.{length, take}
use Rattle.text.specs.Text.{decimal}
use Rattle.text.proofs.Fields.{decimal_length, field_put}
use borrow.Author.Rules.{rules}
use Rattle.text.proofs.number.put_number.Goals as goal
use Rattle.text.proofs.number.put_number.Goals.{After-decimal-count}

spelled : (c : After-decimal-count) → length (decimal c.args.n) ≡ length (take c.decimal-count.result c.decimal-count.new.out)
spelled c =
    let d = c.decimal-count in
    decimal_length c.args.n d.result (search rules) (rw c.from.ensures at d.ensures.len) (rw c.from.ensures at d.ensures.digits)

pub put_bytes-last-requires : goal.put_bytes-last-requires
put_bytes-last-requires c = let h = spelled (goal.at.put_bytes-last-requires c).After-decimal-count in search rules

pub bounds-out-last : goal.bounds-out-last
bounds-out-last c = omega (arith, spelled (goal.at.bounds-out-last c).After-decimal-count, c.put_bytes-last.ensures.next)

pub returns : goal.returns
returns c =
    let d = c.decimal-count in
    let a = c.args in
    record {
      puts = field_put a.n d.result (search rules) (rw c.from.ensures at d.ensures.len) (rw c.from.ensures at d.ensures.digits) a.after c.put_bytes-last.ensures;
      value = omega (arith, spelled (goal.at.returns c).After-decimal-count, c.put_bytes-last.ensures.next);
    }
