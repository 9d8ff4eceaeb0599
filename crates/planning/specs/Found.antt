-- A ladder that was found in its record, as the planner of ladders takes it.
use Rattle.record.specs.declared.Ladder as found
use Rattle.ladder.specs.declared.Ladder as ladder

-- its sides, its totals, and where its rises begin
abbrev pub ladder_of : found.Ladder → ladder.Ladder
ladder_of l =
    record {
      sides = record { price = l.price; supplier = l.supplier; buyer = l.buyer };
      all = record { units = l.count; cost = l.cost; value = l.value };
      first = l.first;
    }
