-- `line::plan_line` meets its contract: the first step and the rule's steps are written, then the entries after them cleared. Assumes nothing.
use mathlib.Core.Path.{refl}
use native.Mathlib.Omega.{arith}
use Rattle.line.proofs.FirstLaws.{success}
use Rattle.line.proofs.OpeningLaws.{sets_at, few_steps, room_kept}
use Rattle.line.proofs.plan_line.Goals as goal

pub returns-then-not-possible : goal.returns-then-not-possible
returns-then-not-possible g c = (refl, (c.possible.ensures.no c.if-not-possible.true, (refl, refl)))

pub begin-k-requires : goal.begin-k-requires
begin-k-requires g c =
    let k = g.met.L.Line.known c.args.line.now in
    (omega (arith, c.first_for-f.ensures.sets.at.within, k.fit.units_fit), omega (arith, c.requires.places_room), omega (arith, c.requires.sums_room))

pub fill-n-requires : goal.fill-n-requires
fill-n-requires g c =
    let x = g.L.Line.course c.args.line.now in
    (c.possible.ensures.yes c.if-not-possible.false, sets_at x.sides x.units x.costs x.values c.begin-k.ensures.count_is c.first_for-f.ensures.sets)

pub overflow_add-count : goal.overflow_add-count
overflow_add-count g c =
    let x = g.L.Line.course c.args.line.now in
    let k = g.met.L.Line.known c.args.line.now in
    let few = few_steps x.sides x.units x.costs x.values x.all k (c.possible.ensures.yes c.if-not-possible.false) c.first_for-f.ensures.sets c.fill-n.ensures.arrives in
    omega (arith, c.begin-k.ensures.count_is, few)

pub returns : goal.returns
returns g c =
    let x = g.L.Line.course c.args.line.now in
    let kept = room_kept x (g.met.L.Line.known c.args.line.now) c.requires c.begin-k.ensures in (
      refl,
      success _ _ _ _ _ _ _ _ _ _ _ _ _ (c.possible.ensures.yes c.if-not-possible.false) c.first_for-f.ensures.suits c.fill-n.ensures.arrives
          c.begin-k.ensures (c.fill-n.ensures.written kept.0 kept.1) c.clear_from.ensures c.clear_from-2.ensures,
    )
