use mathlib.Core.Path.{◌≡◌, sym, ◌∙◌}
use Prim.Native.Nat.{◌+◌, ◌*◌}
use native.Mathlib.Omega.{arith}
use Rattle.record.proofs.LadderLaws.{lifted_next, lifted_end}
use Rattle.record.proofs.segments.totals.Goals as goal

pub loop-k-preserved : goal.loop-k-preserved
loop-k-preserved c =
    let next : c.args.c.at + 8 * (c.loop-k.k + 1) ≡ c.args.c.at + 8 * c.loop-k.k + 8 = omega arith in (
      rw (next, c.from-cost.ensures, c.from-value.ensures, c.load.ensures, c.load-in-loop-k.ensures)
          (sym (lifted_next _ _ _ _ c.loop-k-test.true) ∙ c.loop-k.invariant.0),
      (omega arith, omega arith),
    )

pub returns : goal.returns
returns c =
    let e : c.loop-k.k ≡ c.args.n = omega arith in
    rw e at (sym (lifted_end _ _ _ _ c.loop-k-test.false) ∙ c.loop-k.invariant.0)
