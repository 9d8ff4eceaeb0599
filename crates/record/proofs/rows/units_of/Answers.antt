use mathlib.Core.Path.{◌≡◌, ◌∙◌}
use Prim.Native.Nat.{◌+◌, ◌*◌}
use native.Mathlib.Omega.{arith}
use Rattle.area.specs.Entries.{num}
use Rattle.record.proofs.Laws.{filling_none, filling_more}
use Rattle.record.proofs.TableLaws.{drop_zeros}
use Rattle.record.proofs.rows.units_of.Goals as goal

pub loop-k-init : goal.loop-k-init
loop-k-init c = filling_none 1 _ _ _ _

pub loop-k-preserved : goal.loop-k-preserved
unfolding num
loop-k-preserved c =
    let a = c.args in
    let l = c.loop-k in
    let v : c.from.result ≡ num 1 a.s.now (a.at + l.k * a.step) = omega arith in
    filling_more l.invariant (omega arith) v

pub returns : goal.returns
returns c =
    let e : c.loop-k.k ≡ c.args.n = omega arith in
    c.loop-k.invariant.entries_are ∙ rw (e, drop_zeros 8 c.args.n)
