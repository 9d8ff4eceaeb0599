use mathlib.Core.Path.{◌≡◌}
use borrow.Author.Rules.{rules}
use Rattle.yolkgorge.specs.Limits.{bits_of}
use Rattle.yolkgorge.proofs.LimitLaws.{bits_read, two_stored}
use Rattle.yolkgorge.proofs.limits.store.Goals as goal

pub returns : goal.returns
returns c =
    let x = c.args in
    let low : c.cast_unsigned.result ≡ bits_of x.b.lower = bits_read x.b.lower (search rules) c.cast_unsigned.ensures in
    let high : c.cast_unsigned-2.result ≡ bits_of x.b.upper = bits_read x.b.upper (search rules) c.cast_unsigned-2.ensures in
    rw (← low, ← high) (two_stored x.pair.now _ _ c.save.ensures.stored c.save-2.ensures.stored)
