-- `line::first_count` meets its contract. Assumes nothing.
use mathlib.Core.Path.{sym, ap}
use mathlib.Core.List.{[]}
use lib.ListN.{length}
use Rattle.exchange.proofs.GivenOrder.Opening.{opening_empty, opening_kept}
use Rattle.line.proofs.first_count.Goals as goal

pub returns-then-paid-eq0 : goal.returns-then-paid-eq0
returns-then-paid-eq0 c = ap length (sym (opening_empty _ [] c.if-place-eq0.true c.if-paid-eq0.true))

pub returns-else-paid-eq0 : goal.returns-else-paid-eq0
returns-else-paid-eq0 c = ap length (sym (opening_kept _ [] (λ _ e. c.if-paid-eq0.false e)))

pub returns-else-place-eq0 : goal.returns-else-place-eq0
returns-else-place-eq0 c = ap length (sym (opening_kept _ [] (λ e _. c.if-place-eq0.false e)))
