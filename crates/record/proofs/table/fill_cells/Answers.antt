use Rattle.record.proofs.CellLaws.{given_fills}
use Rattle.record.proofs.table.fill_cells.Goals as goal

pub returns-then-g : goal.returns-then-g
returns-then-g c = given_fills c.args.g c.requires.0 c.requires.1 c.requires.2 c.if-g.true
