use mathlib.Core.Path.{◌≡◌}
use Prim.Native.Nat.{◌+◌}
use native.Mathlib.Omega.{arith}
use native.Mathlib.Numerals.{add-one}
use lib.ListN.{length, drop, get_or}
use lib.Seq.{drop-cons, drop-length}
use lib.Count.{ones, ones-le}
use Rattle.grid.specs.Map.{bit_count}
use Rattle.record.proofs.rows.ones.Goals as goal

pub loop-byte-preserved : goal.loop-byte-preserved
unfolding bit_count
loop-byte-preserved c =
    let i = c.loop-byte.byte-index in
    let map = c.args.map.now in
    let few = ones-le 8 (get_or map i 0) (c.type_inv.map i).fits in
    let e : bit_count (drop i map) ≡ ones (get_or map i 0) + bit_count (drop (i + 1) map) = rw (add-one, drop-cons map i 0 (omega arith)) in
    (omega (arith, few), omega arith)

pub returns : goal.returns
unfolding bit_count
returns c =
    let map = c.args.map.now in
    let e : c.loop-byte.byte-index ≡ length map = omega arith in
    let z : bit_count (drop c.loop-byte.byte-index map) ≡ 0 = rw (e, drop-length map) in
    (omega arith, omega arith)
