use mathlib.Core.Path.{◌≡◌, refl}
use Prim.Native.Nat.{◌+◌, ◌*◌}
use native.Mathlib.Omega.{arith}
use borrow.Author.Tests.{lt-leb}
use lib.ListN.{take}
use Rattle.grid.specs.Rows.{rows_of}
use Rattle.grid.proofs.RowLaws.{rows_take, rows_take_more}
use Rattle.grid.proofs.row_count.Goals as goal
use Rattle.grid.proofs.row_count.Goals.{After-from}

pub loop-u-init : goal.loop-u-init
unfolding rows_of
loop-u-init c = (omega arith, refl, omega arith)

turned : (c : After-from) → c.loop-u.rows * (c.from.result + 1) ≡ rows_of (take (c.loop-u.u-index + 1) c.args.units.now)
turned c = rw (rows_take_more c.loop-u.u-index c.args.units.now c.loop-u-test.true, c.from.ensures, c.loop-u.invariant.1)

pub returns-then-rows-gt-MAX_ROWS : goal.returns-then-rows-gt-MAX_ROWS
returns-then-rows-gt-MAX_ROWS c =
    let us = c.args.units.now in
    rw (lt-leb (rows_of us) 128 (omega (arith, turned (goal.at.returns-then-rows-gt-MAX_ROWS c).After-from, rows_take (c.loop-u.u-index + 1) us)))

pub loop-u-preserved : goal.loop-u-preserved
loop-u-preserved c = (omega arith, turned (goal.at.loop-u-preserved c).After-from, omega arith)
