-- `line::opening::payment_only` meets its contract. Assumes nothing.
use mathlib.Core.Path.{refl}
use Rattle.line.proofs.DealLaws.{covered}
use Rattle.line.proofs.opening.payment_only.Goals as goal

pub pay-paid-requires : goal.pay-paid-requires
pay-paid-requires g c =
    rw (c.sides.ensures, c.totals.ensures) (covered _ _ _ _ _ (g.met.L.Line.known c.args.line.now) c.requires.start_safe)

pub returns : goal.returns
returns g c = rw (c.pay-paid.ensures, c.sides.ensures, c.totals.ensures) refl
