use Rattle.grid.specs.Rows.{rows_of}
use Rattle.held.specs.Down.{rows_left}
use Rattle.search.specs.Layers.{Listing}
use Rattle.search.proofs.OfferLaws.{Offering}
use Rattle.search.proofs.rows.Rows.offer.Given as goal

abbrev pub invariant-loop-row : goal.invariant-loop-row
invariant-loop-row l = let us = l.self.units.now in Offering us l.self.caps.now l.b l.need l.floor l.initial.next l.next l.row × Listing l.next l.list l.count (rows_of us)

abbrev pub decreases-loop-row : goal.decreases-loop-row
decreases-loop-row l = rows_left l.row
