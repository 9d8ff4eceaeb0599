use mathlib.Core.Path.{◌∙◌}
use borrow.Author.Rules.{rules}
use borrow.Author.Tests.{tests}
use lib.Dec.{leb}
use Rattle.std.proofs.lemmas.Iterator.{YieldsList-from_slice}
use Rattle.std.proofs.lemmas.Iterator.Search.{all_from_yields_List}
use Rattle.contract.specs.Contract.{limit}
use Rattle.record.proofs.TestLaws.{within_all}
use Rattle.record.proofs.writer.all_within.Goals as goal

pub returns : goal.returns
returns c =
    all_from_yields_List (λ v. leb v limit) _ _ c.all.result c.all.ensures.ran (YieldsList-from_slice c.args.amounts.now cc) (λ x b q k. search (rules, tests))
    ∙ within_all c.args.amounts.now
