-- `exchange::unclipped_upper` meets its contract: the bound is a difference of two sums. Assumes nothing.
use mathlib.Core.Path.{sym, ◌∙◌}
use mir.Syntax.{w64}
use mir.Facts.{to_z-of_z}
use borrow.Author.Rules.{rules}
use Rattle.exchange.proofs.BoundLaws.{upper_is}
use Rattle.exchange.proofs.unclipped_upper.Goals as goal

pub returns : goal.returns
returns c = to_z-of_z {w = w64} (search rules) ∙ (rw (c.from.ensures, c.from-2.ensures, c.from-3.ensures, c.from-4.ensures) at c.minus.ensures) ∙ sym (upper_is c.args.price c.args.cost_last c.args.cost_here c.args.supplier)
