use mathlib.Core.Path.{refl, sym, ◌∙◌}
use native.Mathlib.Omega.{arith}
use Rattle.contract.specs.declared.Refusal.TheVariants.{Falling}
use Rattle.record.proofs.WriteLaws.{refuses, costs_fall, values_fall, laid, table_sized, map_front}
use Rattle.record.proofs.writer.Contract.write_table.Goals as goal

pub mark-cost_marks-requires : goal.mark-cost_marks-requires
mark-cost_marks-requires c = table_sized c.requires _ refl

pub returns-then-not-cost_marks : goal.returns-then-not-cost_marks
returns-then-not-cost_marks c = refuses Falling (costs_fall c.requires _ (sym c.mark-cost_marks.ensures.0 ∙ c.if-not-cost_marks.true))

pub mark-value_marks-requires : goal.mark-value_marks-requires
mark-value_marks-requires c = table_sized c.requires _ (laid c.requires).same

pub returns-then-not-value_marks : goal.returns-then-not-value_marks
returns-then-not-value_marks c = refuses Falling (values_fall c.requires _ (sym c.mark-cost_marks.ensures.0 ∙ c.if-not-cost_marks.false) (sym c.mark-value_marks.ensures.0 ∙ c.if-not-value_marks.true))

pub shared_ref_as_front-write_grids : goal.shared_ref_as_front-write_grids
shared_ref_as_front-write_grids c = omega (arith, laid c.requires)

pub write_grids-requires : goal.write_grids-requires
write_grids-requires c =
    let t = c.requires in
    record {
      table = t;
      cost_map_is = map_front t _ refl c.mark-cost_marks.ensures.1;
      value_map_is = map_front t _ (laid t).same c.mark-value_marks.ensures.1;
      costs_rise = sym c.mark-cost_marks.ensures.0 ∙ c.if-not-cost_marks.false;
      values_rise = sym c.mark-value_marks.ensures.0 ∙ c.if-not-value_marks.false;
    }
