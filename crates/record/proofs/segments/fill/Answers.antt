use mathlib.Core.Path.{◌≡◌, ap, ◌∙◌}
use Prim.Native.Nat.{◌+◌, ◌*◌}
use native.Mathlib.Omega.{arith}
use Rattle.area.specs.Entries.{num}
use Rattle.record.proofs.Laws.{filling_none, filling_more}
use Rattle.record.proofs.segments.fill.Goals as goal

pub loop-k-init : goal.loop-k-init
loop-k-init c = (filling_none 4 _ _ _ _, filling_none 4 _ _ _ _)

pub loop-k-preserved : goal.loop-k-preserved
loop-k-preserved c =
    let a = c.args in
    let l = c.loop-k in
    let e : a.at + l.k * a.step + 4 ≡ a.at + 4 + l.k * a.step = omega arith in
    (filling_more l.invariant.0 (omega arith) c.load.ensures, filling_more l.invariant.1 (omega arith) (c.load-in-loop-k.ensures ∙ ap (num 4 a.s.now) e))
