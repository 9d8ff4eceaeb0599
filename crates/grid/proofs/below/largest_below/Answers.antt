use mathlib.Core.Path.{◌∙◌}
use Rattle.grid.specs.Below.{below_by}
use Rattle.grid.proofs.BelowLaws.{first_below, one_byte}
use Rattle.grid.proofs.below.largest_below.Goals as goal

pub returns-then-word-lt256 : goal.returns-then-word-lt256
returns-then-word-lt256 c = first_below c.requires c.if_any-a.ensures ∙ one_byte c.requires c.if-word-lt256.true

pub returns : goal.returns
unfolding below_by
returns c = c.item_below.ensures ∙ rw (c.item_below-c.ensures, c.item_below-b.ensures, first_below c.requires c.if_any-a.ensures)
