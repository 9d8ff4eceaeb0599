use Rattle.std.proofs.Common.{rules, ◌≡◌, ◌∙◌}
use lib.Dec.{eqb}
use Rattle.std.specs.List.{count_by}
use Rattle.std.proofs.iter.runs.Made.{chains}
use Rattle.order.proofs.Laws.{count_is}
use Rattle.order.proofs.count.Goals as goal

pub returns : goal.returns
returns c = let h : c.count.result ≡ count_by (λ x. eqb x c.args.number) c.args.bytes.now = search (rules, chains) in h ∙ count_is _ _
