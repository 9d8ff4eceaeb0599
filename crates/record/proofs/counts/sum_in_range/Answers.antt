use mathlib.Core.Path.{sym, ap, ◌∙◌}
use borrow.Author.Rules.{rules}
use lib.Dec.{leb}
use Rattle.std.proofs.lemmas.Iterator.{YieldsList-from_slice, YieldsList-from_map}
use Rattle.std.proofs.lemmas.Iterator.Consumers.{sum_by_from_yields_List, YieldsList-at}
use Rattle.record.proofs.TestLaws.{sum_all}
use Rattle.record.proofs.counts.sum_in_range.Goals as goal

pub returns : goal.returns
returns c =
    ap (λ n. leb n 1000)
    (sum_by_from_yields_List (λ n. n) c.args.units.now c.map.result c.sum.result c.sum.ensures.ran
    (YieldsList-from_map _ (λ n. n) (YieldsList-at c.map.ensures.source (YieldsList-from_slice c.args.units.now cc)) (cc) (λ x r q k. search rules))
    ∙ sym (sum_all c.args.units.now))
