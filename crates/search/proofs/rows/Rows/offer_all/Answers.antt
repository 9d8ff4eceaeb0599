use mathlib.Core.Path.{refl}
use Rattle.search.specs.Layers.{front}
use Rattle.search.proofs.OfferLaws.{need_at_lem, floor_at, offered_none, offered_more}
use Rattle.search.proofs.ListLaws.{listing_start}
use Rattle.search.proofs.rows.Rows.offer_all.Goals as goal

pub loop-i-init : goal.loop-i-init
loop-i-init c =
    let r = c.args.self.now in
    let few = r.searchable.units_are.few in
    (rw c.requires.1 (offered_none r.units.now r.caps.now (front r.floors.now c.args.notes.now c.args.v) few), rw c.requires.1 (listing_start _ _ few c.requires.2))

pub loop-i-preserved : goal.loop-i-preserved
loop-i-preserved c =
    let r = c.args.self.now in
    let f = front r.floors.now c.args.notes.now c.args.v in
    let e = c.from-b.ensures in
    let i = c.loop-i.i in
    let from = c.loop-i.auto.i in
    (offered_more r.units.now r.caps.now f from (c.requires.0.low i from c.loop-i-test.true) e (need_at_lem f i c.from-b.result e c.need_of-need.ensures) (floor_at f i c.from-b.result e refl) c.loop-i.invariant.0 c.offer-count.ensures.0, c.offer-count.ensures.1)
