-- The loop's invariant: the total is that of the amounts before amount i and of those from it on.
use mathlib.Core.Path.{sym}
use native.Mathlib.Omega.{arith}
use borrow.Author.Tests.{le-leb, lt-leb}
use lib.ListN.{length}
use Rattle.contract.specs.Contract.{limit}
use Rattle.contract.specs.Valid.{total}
use Rattle.record.specs.View.Write.{each}
use Rattle.record.proofs.TestLaws.{total_turn, total_end}
use Rattle.record.proofs.writer.total_within.Goals as goal

pub loop-i-init : goal.loop-i-init
loop-i-init c = omega arith

pub returns-then-from-total : goal.returns-then-from-total
returns-then-from-total c = sym (lt-leb (total (each c.args.units.now (length c.args.amounts.now)) c.args.amounts.now) limit (omega (arith, total_turn c.args.units.now c.args.amounts.now c.loop-i.i c.loop-i-test.true)))

pub loop-i-preserved : goal.loop-i-preserved
loop-i-preserved c = omega (arith, total_turn c.args.units.now c.args.amounts.now c.loop-i.i c.loop-i-test.true)

pub returns : goal.returns
returns c = sym (le-leb (total (each c.args.units.now (length c.args.amounts.now)) c.args.amounts.now) limit (omega (arith, total_end c.args.units.now c.args.amounts.now c.loop-i.i c.loop-i-test.false)))
