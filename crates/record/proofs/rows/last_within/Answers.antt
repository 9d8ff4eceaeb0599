use Rattle.area.specs.Entries.{entries}
use Rattle.record.proofs.TestLaws.{last_within}
use Rattle.record.proofs.rows.last_within.Goals as goal

pub returns : goal.returns
returns c =
    let pre = c.requires in
    rw (c.known.ensures, c.count-n.ensures)
    (last_within (entries 4 c.args.cells.now) pre.last)
