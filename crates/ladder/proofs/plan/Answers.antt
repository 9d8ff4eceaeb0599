-- `ladder::plan` meets its contract, by that of the line of its rises. Assumes nothing.
use Rattle.std.proofs.Common.{true, Ok}
use mathlib.Core.Path.{subst}
use Rattle.exchange.specs.Deal.{Deal}
use Rattle.line.specs.Promise.{Answers}
use native.Mathlib.Omega.{arith}
use Rattle.ladder.proofs.RiseLaws.{known, same_deal}
use Rattle.ladder.proofs.plan.Goals as goal

pub invariant_of-rises : goal.invariant_of-rises
invariant_of-rises c = record { lies = c.requires.0; known = known _ _ c.requires.0 (omega (arith, c.well_formed)) (omega (arith, c.well_formed)) }

pub returns : goal.returns
returns c =
    subst (λ (d : Deal). Answers c.args.aim d true (Ok c.plan_line.result) c.args.places.now c.args.sums.now c.plan_line.new.places c.plan_line.new.sums)
    (same_deal c.args.l c.args.s.now) c.plan_line.ensures
