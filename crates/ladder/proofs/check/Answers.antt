-- `ladder::check` meets its contract, by that of the line of its rises. Assumes nothing.
use mathlib.Core.Path.{subst}
use Rattle.exchange.specs.Deal.{Deal}
use Rattle.exchange.specs.PlanIn.{plan_in}
use Rattle.line.specs.CheckCode.{Judges}
use native.Mathlib.Omega.{arith}
use Rattle.ladder.proofs.RiseLaws.{known, same_deal}
use Rattle.ladder.proofs.check.Goals as goal

pub invariant_of-rises : goal.invariant_of-rises
invariant_of-rises c = record { lies = c.requires.0; known = known _ _ c.requires.0 (omega (arith, c.well_formed)) (omega (arith, c.well_formed)) }

pub returns : goal.returns
returns c =
    subst (λ (d : Deal). Judges d (plan_in c.args.count c.args.places.now c.args.sums.now) c.check_line.result) (same_deal c.args.l c.args.s.now)
    c.check_line.ensures
