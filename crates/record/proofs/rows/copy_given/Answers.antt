use mathlib.Core.Path.{ap, ◌∙◌}
use mathlib.Core.List.{List}
use Prim.Native.Nat.{ℕ}
use native.Mathlib.Omega.{arith}
use lib.ListN.{get_or, set, length-set}
use Rattle.area.specs.Entries.{entries}
use Rattle.record.proofs.TableLaws.{copy_more}
use Rattle.record.proofs.rows.copy_given.Goals as goal

pub loop-k-preserved : goal.loop-k-preserved
loop-k-preserved c =
    let l = c.loop-k in
    let cells = entries 4 c.args.given.now in
    let put : List ℕ → List ℕ = λ xs. set xs l.k (get_or cells l.k 0) in
    (rw c.known.ensures (ap put l.invariant.0 ∙ copy_more cells c.args.out.now l.k (omega arith) (omega arith)), simp length-set l.invariant.1)
