-- `exchange::least_paid` meets its contract. Assumes nothing.
use mathlib.Core.Path.{◌≡◌}
use Prim.Native.Nat.{◌≤◌}
use native.Mathlib.Omega.{arith}
use borrow.Author.Rules.{rules}
use lib.IntN.{pos, nat_abs}
use lib.Signed.{◌≤ℤ◌}
use mir.Syntax.{w64}
use mir.Val.{to_z, of_z}
use mir.Facts.{to_z-of_z}
use Rattle.exchange.specs.Rule.{coins}
use Rattle.exchange.proofs.Bridge.{coins_low}
use Rattle.exchange.proofs.BoundLaws.{low↔}
use Rattle.exchange.proofs.CoinLaws.{coins_some, lower_some}
use Rattle.exchange.proofs.least_paid.Goals as goal

pub overflow_cast-result : goal.overflow_cast-result
overflow_cast-result c =
    let z = c.lower.result in
    let k : to_z w64 (of_z w64 z) ≡ z = to_z-of_z {w = w64} (search rules) in
    let h : pos 0 ≤ℤ z = rw c.lower.ensures (lower_some _ _ _ _) in
    let s = coins_some z h in
    let n : nat_abs z ≡ coins z = s.1 in
    let a = c.args in
    let l : coins z ≤ a.price = (coins_low z a.price).0 (rw c.lower.ensures ((low↔ a.price _ _ a.buyer a.price).1 (omega (arith, c.requires)))) in
    rw k (s.0, record { fits = omega arith })

pub returns : goal.returns
returns c =
    let z = c.lower.result in
    let k : to_z w64 (of_z w64 z) ≡ z = to_z-of_z {w = w64} (search rules) in
    let h : pos 0 ≤ℤ z = rw c.lower.ensures (lower_some _ _ _ _) in
    rw (k, ← c.lower.ensures) (coins_some z h).1
