use mathlib.Core.Path.{sym, ◌∙◌}
use Rattle.contract.specs.declared.Refusal.TheVariants.{Limit}
use Rattle.record.proofs.WriteLaws.{refuses, over_limit}
use Rattle.record.proofs.writer.Contract.write.Goals as goal

pub returns-then-not-within_limit : goal.returns-then-not-within_limit
returns-then-not-within_limit c = refuses Limit (over_limit _ _ (sym c.within_limit.ensures ∙ c.if-not-within_limit.true))
