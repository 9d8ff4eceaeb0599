use mathlib.Core.Path.{refl}
use Rattle.choice.specs.Ends.{end_at}
use Rattle.choice.proofs.PlaceLaws.{going_begin, going_done, going_next, slack_next}
use Rattle.choice.proofs.order_end.OrderEnd.place.Goals as goal

pub loop-count-init : goal.loop-count-init
loop-count-init c = (going_begin c.requires.0 c.requires.1, refl)

pub returns-in_default : goal.returns-in_default
returns-in_default c =
    let l = c.loop-count in
    going_done {x = end_at l.end} l.invariant.1 c.args.self.now.few c.loop-count-test.true l.invariant.0 c.in_default.ensures.best

pub loop-count-preserved : goal.loop-count-preserved
loop-count-preserved c =
    let l = c.loop-count in
    let few = c.args.self.now.few in (
      going_next {x = end_at l.end} l.invariant.1 few c.loop-count-test.true l.invariant.0 c.in-Some.ensures.item c.in-Some.ensures.best c.after-end.ensures.added c.after-end.ensures.taken,
      slack_next {x = end_at l.end} l.invariant.1 few c.loop-count-test.true l.invariant.0 {y = end_at c.after-end.result} c.after-end.ensures.end,
    )
