use Rattle.std.proofs.Common.{rules, ◌≡◌, ◌∙◌}
use borrow.Author.Tests.{tests}
use lib.Dec.{eqb}
use Rattle.std.specs.List.{list_all}
use Rattle.std.proofs.lemmas.Iterator.{YieldsList-from_slice}
use Rattle.std.proofs.lemmas.Iterator.Search.{all_from_yields_List}
use Rattle.order.proofs.Laws.{zeros_is}
use Rattle.order.proofs.all_zero.Goals as goal

pub returns : goal.returns
returns c =
    let h : c.all.result ≡ list_all (λ x. eqb x 0) c.args.bytes.now =
    all_from_yields_List (λ x. eqb x 0) c.all.new.self _ c.all.result c.all.ensures.ran (YieldsList-from_slice c.args.bytes.now cc) (λ x b q k. search (rules, tests)) in
    h ∙ zeros_is _
