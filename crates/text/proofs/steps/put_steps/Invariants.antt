use Rattle.text.proofs.Fields.{Lining}
use Rattle.text.proofs.steps.put_steps.Given as goal

abbrev pub invariant-loop-k : goal.invariant-loop-k
invariant-loop-k l = Lining l.count l.places l.sums l.initial.out l.at l.out l.end l.k
