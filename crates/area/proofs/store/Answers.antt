use native.Mathlib.Omega.{arith}
use Rattle.area.proofs.Laws.{entry_room, stored_entry}
use Rattle.area.proofs.store.Goals as goal

pub overflow_mul-k : goal.overflow_mul-k
overflow_mul-k g c = rw c.BYTES.ensures (omega (arith, entry_room _ _ _ (rw c.count.ensures at c.if-k-count.true) g.met.T.Entry.some_bytes))

pub save-requires : goal.save-requires
save-requires g c = rw c.BYTES.ensures (omega (arith, entry_room _ _ _ (rw c.count.ensures at c.if-k-count.true) g.met.T.Entry.some_bytes))

pub returns-then-k-count : goal.returns-then-k-count
returns-then-k-count g c =
    let there = rw c.count.ensures at c.if-k-count.true in
    rw (c.save.ensures.stored, c.BYTES.ensures) (stored_entry _ _ _ _ g.met.T.Entry.some_bytes there c.save.ensures.fits)
