-- `exchange::lower` meets its contract: the greater of two numbers. Assumes nothing.
use mathlib.Core.Path.{◌≡◌}
use mathlib.Core.Bool.{true, false}
use borrow.Author.Rules.{rules}
use lib.Signed.{lt_z}
use lib.IntN.{pos}
use mir.Syntax.{w64}
use mir.Val.{to_z, of_z}
use mir.Facts.{to_z-of_z}
use Rattle.exchange.specs.Bounds.{lower_of}
use Rattle.exchange.proofs.lower.Goals as goal

pub returns-then-bound-gt0 : goal.returns-then-bound-gt0
unfolding lower_of
returns-then-bound-gt0 c =
    let z = c.unclipped_lower-bound.result in
    let k : to_z w64 (of_z w64 z) ≡ z = to_z-of_z {w = w64} (search rules) in
    let f : lt_z (pos 0) (to_z w64 (of_z w64 z)) ≡ true = c.if-bound-gt0.true in
    rw (← c.unclipped_lower-bound.ensures, rw k at f) k

pub returns : goal.returns
unfolding lower_of
returns c =
    let z = c.unclipped_lower-bound.result in
    let k : to_z w64 (of_z w64 z) ≡ z = to_z-of_z {w = w64} (search rules) in
    let f : lt_z (pos 0) (to_z w64 (of_z w64 z)) ≡ false = c.if-bound-gt0.false in
    rw (← c.unclipped_lower-bound.ensures, rw k at f)
