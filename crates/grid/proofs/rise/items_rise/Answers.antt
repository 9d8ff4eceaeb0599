use mathlib.Core.Path.{sym}
use mathlib.Core.Bool.{◌&&◌}
use Prim.Native.Nat.{◌+◌, ◌*◌, ◌<◌}
use native.Mathlib.Omega.{arith}
use lib.ListN.{length}
use Rattle.area.specs.Entries.{entries}
use Rattle.grid.proofs.RiseLaws.{Risen, last_none, risen_le, risen_alone, next_le, item_segment, risen_two, risen_three, risen_four, risen_all}
use Rattle.grid.proofs.rise.items_rise.Goals as goal
use Rattle.grid.proofs.rise.items_rise.Goals.{After-run_rises-one, After-rows_rise, After-rows_rise-2}

one_risen : (c : After-run_rises-one) → Risen c.args.units.now (entries 4 c.args.given.now) 1 (c.from-a.result + 1) c.run_rises-one.result
one_risen c = risen_alone c.requires.0 (omega (arith, c.requires.1)) (rw c.from-a.ensures) c.run_rises-one.ensures

two_risen : (c : After-rows_rise) → Risen c.args.units.now (entries 4 c.args.given.now) 1 (c.from-a.result + 1) c.run_rises-one.result
    → Risen c.args.units.now (entries 4 c.args.given.now) 2 ((c.from-a.result + 1) * (c.from.result + 1)) (c.run_rises-one.result && c.rows_rise.result)
two_risen c one = risen_two c.requires.0 c.all_units-words.ensures c.requires.1 one (rw c.from.ensures) (rw c.rows_rise.ensures)

three_risen : (c : After-rows_rise-2) → Risen c.args.units.now (entries 4 c.args.given.now) 1 (c.from-a.result + 1) c.run_rises-one.result
    → Risen c.args.units.now (entries 4 c.args.given.now) 2 ((c.from-a.result + 1) * (c.from.result + 1)) (c.run_rises-one.result && c.rows_rise.result)
    → Risen c.args.units.now (entries 4 c.args.given.now) 3 ((c.from-a.result + 1) * (c.from.result + 1) * (c.from-2.result + 1)) (c.run_rises-one.result && c.rows_rise.result && c.rows_rise-2.result)
three_risen c one two =
    risen_three c.requires.0 c.all_units-words.ensures one two (omega (arith, c.requires.1, c.if-n-eq2.false)) (rw c.from-2.ensures) (rw c.rows_rise-2.ensures)

pub run_rises-one-requires : goal.run_rises-one-requires
run_rises-one-requires c =
    let pre = c.requires in
    omega (arith, next_le pre.0 {i = 0} {k = 1} {m = c.from-a.result + 1} (omega (arith, pre.1)) (sym (last_none c.args.units.now)) (rw c.from-a.ensures))

pub rows_rise-requires : goal.rows_rise-requires
rows_rise-requires c =
    let one = one_risen (goal.at.rows_rise-requires c).After-run_rises-one in
    item_segment c.requires.0 c.requires.1 one.rows (rw c.from.ensures) (omega arith) (omega arith)

pub returns-then-n-eq2 : goal.returns-then-n-eq2
returns-then-n-eq2 c =
    let at = goal.at.returns-then-n-eq2 c in
    risen_all (two_risen at.After-rows_rise (one_risen at.After-run_rises-one)) (omega (arith, c.if-n-eq2.true))

pub rows_rise-requires-2 : goal.rows_rise-requires-2
rows_rise-requires-2 c =
    let at = goal.at.rows_rise-requires-2 c in
    let one = one_risen at.After-run_rises-one in
    let two = two_risen at.After-rows_rise one in
    item_segment c.requires.0 (omega (arith, c.requires.1, c.if-n-eq2.false)) two.rows (rw c.from-2.ensures) (risen_le (omega arith) (omega (arith, c.requires.1)) one two) (omega arith)

pub returns-then-n-eq3 : goal.returns-then-n-eq3
returns-then-n-eq3 c =
    let at = goal.at.returns-then-n-eq3 c in
    let one = one_risen at.After-run_rises-one in
    risen_all (three_risen at.After-rows_rise-2 one (two_risen at.After-rows_rise one)) (omega (arith, c.if-n-eq3.true))

pub overflow_mul-d : goal.overflow_mul-d
overflow_mul-d c =
    let at = goal.at.overflow_mul-d c in
    let one = one_risen at.After-run_rises-one in
    let three = three_risen at.After-rows_rise-2 one (two_risen at.After-rows_rise one) in
    let pre = c.requires in
    omega (arith, next_le pre.0 {m = c.from-3.result + 1} (omega (arith, pre.1, c.if-n-eq2.false, c.if-n-eq3.false)) three.rows (rw c.from-3.ensures), pre.0.long, pre.0.small.rows)

pub rows_rise-requires-3 : goal.rows_rise-requires-3
rows_rise-requires-3 c =
    let at = goal.at.rows_rise-requires-3 c in
    let one = one_risen at.After-run_rises-one in
    let two = two_risen at.After-rows_rise one in
    let three = three_risen at.After-rows_rise-2 one two in
    let more : 3 < length c.args.units.now = omega (arith, c.requires.1, c.if-n-eq2.false, c.if-n-eq3.false) in
    item_segment c.requires.0 more three.rows (rw c.from-3.ensures) (risen_le (omega arith) (omega arith) one three) (risen_le (omega arith) (omega arith) two three)

pub returns : goal.returns
returns c =
    let at = goal.at.returns c in
    let one = one_risen at.After-run_rises-one in
    let two = two_risen at.After-rows_rise one in
    let three = three_risen at.After-rows_rise-2 one two in
    let more : 3 < length c.args.units.now = omega (arith, c.requires.1, c.if-n-eq2.false, c.if-n-eq3.false) in
    risen_all (risen_four c.requires.0 c.all_units-words.ensures {m = c.from-3.result + 1} one two more three (rw c.from-3.ensures) (rw c.rows_rise-3.ensures))
    (omega (arith, more, c.requires.0.small.items))
