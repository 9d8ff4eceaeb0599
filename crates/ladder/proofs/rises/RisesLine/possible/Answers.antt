-- `ladder::rises::RisesLine::possible` meets its contract: each return goes by the tests passed before it. Assumes nothing.
use mathlib.Core.Bool.{not}
use mathlib.Core.Path.{sym, ap, ◌∙◌}
use Rattle.line.proofs.DealLaws.{started, start_unsafe}
use Rattle.ladder.proofs.PlanLaws.{no_gaps}
use Rattle.ladder.proofs.rises.RisesLine.possible.Goals as goal

pub returns-then-not-start_safe : goal.returns-then-not-start_safe
returns-then-not-start_safe c =
    let x = c.args.self.now in
    start_unsafe x.ladder.sides _ _ _ x.ladder.all x.known _ c.start_safe.ensures (ap not c.if-not-start_safe.true)

pub returns-then-meets : goal.returns-then-meets
returns-then-meets c =
    let x = c.args.self.now in
    let safe = started x.ladder.sides _ _ _ x.ladder.all x.known _ c.start_safe.ensures (ap not c.if-not-start_safe.false) in
    no_gaps x.ladder x.bytes.now x.lies x.known safe (sym c.meets.ensures ∙ c.if-meets.true)

pub climbs-requires : goal.climbs-requires
climbs-requires c =
    let x = c.args.self.now in
    started x.ladder.sides _ _ _ x.ladder.all x.known _ c.start_safe.ensures (ap not c.if-not-start_safe.false)
