use mathlib.Core.Path.{◌≡◌, sym, ◌∙◌}
use native.Mathlib.Omega.{arith}
use lib.ListN.{length}
use Rattle.contract.specs.declared.Refusal.TheVariants.{Range, Short}
use Rattle.record.proofs.Laws.{some_of, none_of}
use Rattle.record.proofs.CountLaws.{InRange, counted_some, counted_none, costs_short, values_short, items_few, writes_cut}
use Rattle.record.proofs.WriteLaws.{refuses, refuses_on}
use Rattle.record.proofs.ReadBack.{promised}
use Rattle.record.proofs.write.Goals as goal
use Rattle.record.proofs.write.Goals.{In_ok-n, then-costs-n-via-then-costs-n, then-costs-n-via-else-costs-n+then-values-n}

-- the counts are in range
in_range : (c : In_ok-n) → InRange c.args.header c.in_ok-n.n
in_range c = counted_some c.args.header (sym c.entry_count.ensures ∙ some_of c.entry_count.result Range c.in_ok-n.ensures.value)

pub returns-in_err-n : goal.returns-in_err-n
returns-in_err-n c =
    let eight : length c.args.header.units ≡ 8 = omega arith in
    let none = none_of c.entry_count.result c.in_err-n.ensures.value in
    promised eight (refuses_on Range (counted_none c.args.header _ _ _ (sym c.entry_count.ensures ∙ none.0)) (rw none.1 at c.from_residual.ensures.1))

pub returns-then-costs-n : goal.returns-then-costs-n
returns-then-costs-n c =
    let eight : length c.args.header.units ≡ 8 = omega arith in
    let counts = in_range (goal.at.returns-then-costs-n c).In_ok-n in
    elim c.then-costs-n.branch [
      | then-costs-n-via-then-costs-n w ↦ promised eight (refuses Short (costs_short counts _ _ _ w.if-costs-n.true))
      | then-costs-n-via-else-costs-n+then-values-n w ↦ promised eight (refuses Short (values_short counts _ _ _ w.if-costs-n.false w.if-values-n.true))
    ]

pub shared_ref_as_front-contract : goal.shared_ref_as_front-contract
shared_ref_as_front-contract c =
    let eight : length c.args.header.units ≡ 8 = omega arith in
    let counts = in_range (goal.at.shared_ref_as_front-contract c).In_ok-n in
    omega (arith, items_few counts eight)

pub returns : goal.returns
returns c =
    let eight : length c.args.header.units ≡ 8 = omega arith in
    let counts = in_range (goal.at.returns c).In_ok-n in
    promised eight (writes_cut counts _ _ c.if-costs-n.false c.if-values-n.false (rw c.item_count-k.ensures at c.write.ensures))
