-- `exchange::most_paid` meets its contract. Assumes nothing.
use mathlib.Core.Path.{◌≡◌, ◌∙◌}
use mathlib.Core.Bool.{true, false}
use Prim.Native.Nat.{◌<◌}
use native.Mathlib.Omega.{arith}
use borrow.Author.Rules.{rules}
use lib.IntN.{pos, nat_abs}
use lib.Signed.{lt_z}
use mir.Syntax.{w64}
use mir.Val.{to_z, of_z}
use mir.Facts.{to_z-of_z}
use Rattle.exchange.specs.Rule.{coins}
use Rattle.exchange.proofs.Int.{not_less_≤}
use Rattle.exchange.proofs.Clipped.{most_same}
use Rattle.exchange.proofs.CoinLaws.{coins_none, coins_some, coins_under, coins_over}
use Rattle.exchange.proofs.most_paid.Goals as goal

pub returns-then-bound-lt0 : goal.returns-then-bound-lt0
returns-then-bound-lt0 c =
    let z = c.unclipped_upper-bound.result in
    let k : to_z w64 (of_z w64 z) ≡ z = to_z-of_z {w = w64} (search rules) in
    let f : lt_z (to_z w64 (of_z w64 z)) (pos 0) ≡ true = c.if-bound-lt0.true in
    rw (most_same _ _ _ _, ← c.unclipped_upper-bound.ensures) (omega (arith, coins_none z (rw k at f)))

pub overflow_cast-result : goal.overflow_cast-result
overflow_cast-result c =
    let back : to_z w64 (of_z w64 c.unclipped_upper-bound.result) ≡ c.unclipped_upper-bound.result = to_z-of_z {w = w64} (search rules) in
    let signed : lt_z c.unclipped_upper-bound.result (pos 0) ≡ false = let f : lt_z (to_z w64 (of_z w64 c.unclipped_upper-bound.result)) (pos 0) ≡ false = c.if-bound-lt0.false in
    rw (back) at f in
    let under : coins c.unclipped_upper-bound.result < c.args.price = let P = c.args.price in
    let m : to_z w64 (of_z w64 c.from.result) ≡ pos P = to_z-of_z {w = w64} (search rules) ∙ c.from.ensures in
    let g : lt_z (to_z w64 (of_z w64 c.unclipped_upper-bound.result)) (to_z w64 (of_z w64 c.from.result)) ≡ true = c.if-bound-from.true in
    coins_under c.unclipped_upper-bound.result P (signed) (rw (back, m) at g) in
    let s = coins_some c.unclipped_upper-bound.result (not_less_≤ _ _ (signed)) in
    let n : nat_abs c.unclipped_upper-bound.result ≡ coins c.unclipped_upper-bound.result = s.1 in
    rw (back) (s.0, record { fits = omega (arith, under) })

pub returns-then-bound-from : goal.returns-then-bound-from
returns-then-bound-from c =
    let back : to_z w64 (of_z w64 c.unclipped_upper-bound.result) ≡ c.unclipped_upper-bound.result = to_z-of_z {w = w64} (search rules) in
    let signed : lt_z c.unclipped_upper-bound.result (pos 0) ≡ false = let f : lt_z (to_z w64 (of_z w64 c.unclipped_upper-bound.result)) (pos 0) ≡ false = c.if-bound-lt0.false in
    rw (back) at f in
    let under : coins c.unclipped_upper-bound.result < c.args.price = let P = c.args.price in
    let m : to_z w64 (of_z w64 c.from.result) ≡ pos P = to_z-of_z {w = w64} (search rules) ∙ c.from.ensures in
    let g : lt_z (to_z w64 (of_z w64 c.unclipped_upper-bound.result)) (to_z w64 (of_z w64 c.from.result)) ≡ true = c.if-bound-from.true in
    coins_under c.unclipped_upper-bound.result P (signed) (rw (back, m) at g) in
    let n : nat_abs c.unclipped_upper-bound.result ≡ coins c.unclipped_upper-bound.result = (coins_some c.unclipped_upper-bound.result (not_less_≤ _ _ (signed))).1 in
    rw (back, most_same _ _ _ _, ← c.unclipped_upper-bound.ensures) (omega (arith, under))

pub returns : goal.returns
returns c =
    let z = c.unclipped_upper-bound.result in
    let P = c.args.price in
    let k : to_z w64 (of_z w64 z) ≡ z = to_z-of_z {w = w64} (search rules) in
    let m : to_z w64 (of_z w64 c.from.result) ≡ pos P = to_z-of_z {w = w64} (search rules) ∙ c.from.ensures in
    let f : lt_z (to_z w64 (of_z w64 z)) (pos 0) ≡ false = c.if-bound-lt0.false in
    let g : lt_z (to_z w64 (of_z w64 z)) (to_z w64 (of_z w64 c.from.result)) ≡ false = c.if-bound-from.false in
    rw (most_same _ _ _ _, ← c.unclipped_upper-bound.ensures) (omega (arith, coins_over z P (rw k at f) (rw (k, m) at g)))
