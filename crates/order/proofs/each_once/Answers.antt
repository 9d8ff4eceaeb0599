use mathlib.Core.Path.{sym, ◌∙◌}
use Rattle.order.proofs.Laws.{each_none, each_more, each_fails}
use Rattle.order.proofs.each_once.Goals as goal

pub loop-j-init : goal.loop-j-init
loop-j-init c = each_none _

pub returns-then-count-ne1 : goal.returns-then-count-ne1
returns-then-count-ne1 c = sym (each_fails c.loop-j.j c.args.n _ c.loop-j-test.true (λ q. c.if-count-ne1.true (c.count.ensures ∙ q)))

pub loop-j-preserved : goal.loop-j-preserved
loop-j-preserved c = each_more c.loop-j.j _ c.loop-j.invariant (sym c.count.ensures ∙ c.if-count-ne1.false)
