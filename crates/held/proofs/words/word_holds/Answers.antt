use Rattle.std.proofs.Common.{rules, ◌≡◌, ◌∙◌}
use borrow.Author.Tests.{tests}
use lib.Dec.{leb}
use Rattle.std.specs.List.{list_all, zip}
use Rattle.std.proofs.lemmas.Iterator.{YieldsList-from_slice, YieldsList-from_zip}
use Rattle.std.proofs.lemmas.Iterator.Search.{all_from_yields_List}
use Rattle.held.proofs.WordLaws.{bytes_held}
use Rattle.held.proofs.words.word_holds.Goals as goal

pub returns : goal.returns
returns c =
    let h : c.all.result ≡ list_all (λ p. leb p.0 p.1) (zip c.to_le_bytes.result c.to_le_bytes-2.result) =
    all_from_yields_List (λ p. leb p.0 p.1) c.all.new.self _ c.all.result c.all.ensures.ran
    (YieldsList-from_zip (YieldsList-from_slice c.to_le_bytes.result cc) (YieldsList-from_slice c.to_le_bytes-2.result cc))
    (λ x b q k. search (rules, tests)) in
    h ∙ bytes_held _ _ _ _ c.to_le_bytes.ensures c.to_le_bytes-2.ensures
