use Rattle.grid.specs.Rise.{row_rises}
use Rattle.grid.proofs.rise.row_rises.Goals as goal

pub returns : goal.returns
unfolding row_rises
returns c = rw (c.if_any-third.ensures, c.if_any-second.ensures, c.if_any-last.ensures, c.known-first.ensures, c.known-3.ensures, c.known-2.ensures, c.known.ensures, c.known-v.ensures)
