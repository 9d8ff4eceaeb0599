use Rattle.record.specs.View.Write.{run_bytes}
use Rattle.area.proofs.PutLaws.{Left}
use Rattle.record.proofs.PutLaws.{run_from}
use Rattle.record.proofs.output.put_segments.Given as goal

abbrev pub invariant-loop-i : goal.invariant-loop-i
invariant-loop-i l =
    Left (run_bytes l.units l.costs l.values) l.initial.out l.at (run_from l.units l.costs l.values l.i) l.out l.j
