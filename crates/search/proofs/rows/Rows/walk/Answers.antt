use Rattle.search.proofs.WalkLaws.{first_some, first_is, going_start, going_there, going_on, going_done}
use Rattle.search.proofs.rows.Rows.walk.Goals as goal

pub loop-k-init : goal.loop-k-init
loop-k-init c = going_start c.args.self.now.searchable c.requires

pub unwrap-b-requires : goal.unwrap-b-requires
unwrap-b-requires c = first_some _ c.next_row-next.ensures (going_there c.args.self.now.searchable c.requires c.loop-k.invariant c.loop-k-test.true)

pub loop-k-preserved : goal.loop-k-preserved
loop-k-preserved c = going_on c.args.self.now.searchable c.requires c.loop-k.invariant c.loop-k-test.true (first_is c.next_row-next.ensures c.unwrap-b.ensures).1 c.store.ensures c.store-in-loop-k.ensures

pub returns : goal.returns
returns c = going_done c.args.self.now.searchable c.requires c.loop-k.invariant c.loop-k-test.false
