use mathlib.Core.Path.{◌∙◌}
use mathlib.Core.Bool.{◌&&◌}
use borrow.Author.Rules.{rules}
use borrow.Author.Tests.{tests}
use lib.Dec.{leb, ltb}
use Rattle.std.proofs.lemmas.Iterator.{YieldsList-from_slice}
use Rattle.std.proofs.lemmas.Iterator.Search.{all_from_yields_List}
use Rattle.record.proofs.TestLaws.{range_all}
use Rattle.record.proofs.counts.units_in_range.Goals as goal

pub returns : goal.returns
returns c =
    all_from_yields_List (λ u. ltb 0 u && leb u 255) _ _ c.all.result c.all.ensures.ran (YieldsList-from_slice c.args.units.now cc) (λ x b q k. search (rules, tests))
    ∙ range_all c.args.units.now
