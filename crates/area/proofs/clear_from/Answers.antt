use native.Mathlib.Omega.{arith}
use Rattle.area.proofs.Laws.{entry_room, entries_end, cleared_from}
use Rattle.area.proofs.clear_from.Goals as goal

pub overflow_mul-n : goal.overflow_mul-n
overflow_mul-n g c =
    rw c.BYTES.ensures (omega (arith, entry_room _ _ _ (rw c.count-count.ensures at c.if-n-count.true) g.met.T.Entry.some_bytes))

pub overflow_mul-count : goal.overflow_mul-count
overflow_mul-count g c = rw (c.count-count.ensures, c.BYTES-then-n-count.ensures) (omega (arith, entries_end g.T.Entry.BYTES c.args.n c.args.area.now))

pub slice_bounds-clear-end : goal.slice_bounds-clear-end
slice_bounds-clear-end g c = rw (c.count-count.ensures, c.BYTES-then-n-count.ensures) (entries_end g.T.Entry.BYTES c.args.n c.args.area.now)

pub returns-then-n-count : goal.returns-then-n-count
returns-then-n-count g c =
    let zeroed = rw (c.BYTES.ensures, c.count-count.ensures, c.BYTES-then-n-count.ensures) at c.clear.ensures in
    rw (c.BYTES.ensures, c.count-count.ensures, c.BYTES-then-n-count.ensures)
    (cleared_from _ _ _ _ g.met.T.Entry.some_bytes (rw c.count-count.ensures at c.if-n-count.true) zeroed)
