use Rattle.search.proofs.WalkLaws.{looking_found, looking_next, looking_none}
use Rattle.search.proofs.rows.Rows.next_row.Goals as goal

pub returns-then-deliverable : goal.returns-then-deliverable
returns-then-deliverable c = (c.loop-b-test.true, looking_found c.loop-b.invariant c.need_after-need.result c.deliverable.result c.loop-b-test.true c.need_after-need.ensures c.deliverable.ensures c.if-deliverable.true)

pub loop-b-preserved : goal.loop-b-preserved
loop-b-preserved c = looking_next c.loop-b.invariant c.need_after-need.result c.deliverable.result c.loop-b-test.true c.need_after-need.ensures c.deliverable.ensures c.if-deliverable.false

pub returns : goal.returns
returns c = looking_none c.loop-b.invariant c.loop-b-test.false
