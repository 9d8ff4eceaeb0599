use Rattle.std.proofs.Common.{rules, ◌∷◌}
use lib.ListN.{get_or}
use native.Mathlib.Omega.{arith}
use Rattle.order.proofs.MapLaws.{is_map}
use Rattle.order.proofs.pick.Goals as goal

pub returns : goal.returns
returns g c = is_map _ _ (λ b. get_or (c.args.none ∷ c.args.amounts.now) b c.args.none) (λ x y q k. search rules) c.args.order c.map.result 8 (omega arith) c.map.ensures.items 0
