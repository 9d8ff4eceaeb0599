-- What the check says of a plan is said of its session. Assumes nothing.
use mathlib.Core.Path.{refl}
use native.Mathlib.Nat.{sub-zero}
use Rattle.session.proofs.PlanLaws.{after_none, held_length}
use Rattle.session.proofs.OpenLaws.{accepted_held}
use Rattle.session.proofs.open.Goals as goal

pub pass_over-requires-clause-here : goal.pass_over-requires-clause-here
pass_over-requires-clause-here c =
    record { held = accepted_held c.args.bytes.now c.args.plan.now c.args.order.now c.in_ok-check.ensures; state_is = after_none _ _ }

pub returns : goal.returns
returns c =
    let held = accepted_held c.args.bytes.now c.args.plan.now c.args.order.now c.in_ok-check.ensures in
    record { checks = c.in_ok-check.ensures; session = rw (c.pass_over.ensures, sub-zero c.args.plan.now.count, held_length _ held) refl }
