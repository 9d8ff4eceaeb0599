use mathlib.Core.Path.{◌≡◌}
use Prim.Native.Nat.{◌-◌}
use native.Mathlib.Omega.{arith}
use Rattle.choice.proofs.JoinLaws.{join_none, join_next}
use Rattle.choice.proofs.join.Goals as goal

pub loop-k-init : goal.loop-k-init
loop-k-init c = λ f b hf hb. join_none f b _ _ _ _ hf hb

pub loop-k-preserved : goal.loop-k-preserved
loop-k-preserved c = λ f b hf hb. join_next f b _ _ _ _ hf hb c.loop-k.k c.loop-k.items (omega arith) (omega arith) (c.loop-k.invariant f b hf hb)

pub returns : goal.returns
returns c = λ f b hf hb. let e : c.args.back.count - c.loop-k.k ≡ 0 = omega arith in rw e at (c.loop-k.invariant f b hf hb)
