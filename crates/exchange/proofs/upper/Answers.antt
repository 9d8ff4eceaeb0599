-- `exchange::upper` meets its contract: the smaller of two numbers. Assumes nothing.
use mathlib.Core.Path.{◌≡◌, ◌∙◌}
use mathlib.Core.Bool.{true, false}
use borrow.Author.Rules.{rules}
use lib.Signed.{lt_z}
use lib.IntN.{pos}
use mir.Syntax.{w64}
use mir.Val.{to_z, of_z}
use mir.Facts.{to_z-of_z}
use Rattle.exchange.specs.Bounds.{upper_of}
use Rattle.exchange.proofs.upper.Goals as goal

pub returns-then-bound-most : goal.returns-then-bound-most
unfolding upper_of
returns-then-bound-most c =
    let z = c.unclipped_upper-bound.result in
    let P = c.args.price in
    let k : to_z w64 (of_z w64 z) ≡ z = to_z-of_z {w = w64} (search rules) in
    let m : to_z w64 (of_z w64 c.from-most.result) ≡ pos P = to_z-of_z {w = w64} (search rules) ∙ c.from-most.ensures in
    let f : lt_z (to_z w64 (of_z w64 z)) (to_z w64 (of_z w64 c.from-most.result)) ≡ true = c.if-bound-most.true in
    rw (← c.unclipped_upper-bound.ensures, rw (k, m) at f) k

pub returns : goal.returns
unfolding upper_of
returns c =
    let z = c.unclipped_upper-bound.result in
    let P = c.args.price in
    let k : to_z w64 (of_z w64 z) ≡ z = to_z-of_z {w = w64} (search rules) in
    let m : to_z w64 (of_z w64 c.from-most.result) ≡ pos P = to_z-of_z {w = w64} (search rules) ∙ c.from-most.ensures in
    let f : lt_z (to_z w64 (of_z w64 z)) (to_z w64 (of_z w64 c.from-most.result)) ≡ false = c.if-bound-most.false in
    rw (← c.unclipped_upper-bound.ensures, rw (k, m) at f) m
