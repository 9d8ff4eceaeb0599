use Rattle.grid.specs.Rows.{rows_of}
use Rattle.search.specs.Layers.{front, Offered, Listing}
use Rattle.search.proofs.rows.Rows.offer_all.Given as goal

abbrev pub invariant-loop-i : goal.invariant-loop-i
invariant-loop-i l = let us = l.self.units.now in Offered us l.self.caps.now (front l.self.floors.now l.notes l.v) l.i l.next × Listing l.next l.list l.count (rows_of us)
