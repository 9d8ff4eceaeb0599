use Rattle.search.specs.Layers.{Noting}
use Rattle.search.proofs.notes.Notes.note.Given as goal

abbrev pub invariant-loop-row : goal.invariant-loop-row
invariant-loop-row l = Noting l.next l.list l.step l.end l.initial.self l.self l.row-index l.m
