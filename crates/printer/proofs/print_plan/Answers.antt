-- `printer::print_plan` plans in areas that have room, and puts the text.
use Rattle.planning.specs.Answer.{answer_of}
use Rattle.planning.specs.Areas.{areas}
use Rattle.planning.specs.Promise.{ahead}
use Rattle.planning.proofs.Room.{roomy_ahead}
use Rattle.printer.specs.Printout.{lent}
use Rattle.printer.proofs.PrintLaws.{roomy, counted}
use Rattle.printer.proofs.print_plan.Goals as goal

pub put_answer-requires : goal.put_answer-requires
put_answer-requires c =
    let p = c.plan-planned in
    (counted (ahead c.args.bytes.now lent) (answer_of p.result) (areas p.new.places p.new.sums p.new.order p.new.work) p.ensures, c.requires)

pub returns : goal.returns
returns c =
    let p = c.plan-planned in
    record {
      answer = answer_of p.result;
      filled = areas p.new.places p.new.sums p.new.order p.new.work;
      plans = rw (roomy_ahead _ lent roomy) at p.ensures;
      puts = c.put_answer.ensures.puts;
      fits = c.put_answer.ensures.upper_bound;
    }
