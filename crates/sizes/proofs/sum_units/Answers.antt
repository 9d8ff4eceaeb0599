use Rattle.std.proofs.Common.{rules, arith, ◌≡◌, ◌≤◌, length, ◌*◌, ◌∙◌}
use Rattle.std.specs.List.{sum}
use Rattle.std.proofs.iter.runs.Made.{chains}
use Rattle.std.proofs.lemmas.List.Sums.{sum_by-le}
use Rattle.sizes.proofs.UnitLaws.{sum_is}
use Rattle.sizes.proofs.sum_units.Goals as goal

pub returns-clause-value : goal.returns-clause-value
returns-clause-value c = let h : c.sum.result ≡ sum c.args.units.now = search (rules, chains) in h ∙ sum_is _ (omega arith)

pub returns-clause-bound : goal.returns-clause-bound
returns-clause-bound c =
    let h : c.sum.result ≡ sum c.args.units.now = search (rules, chains) in
    let l : sum c.args.units.now ≤ length c.args.units.now * 65535 = search (rules, sum_by-le) in
    omega arith
