use mathlib.Core.Path.{refl, ap}
use Prim.Native.Nat.{ℕ}
use native.Mathlib.Omega.{arith}
use lib.ListN.{length-replicate}
use Rattle.search.specs.declared.layers.Window.{Window}
use Rattle.search.proofs.CountLaws.{counting_start, end_few, found_few, can_step, counting_found, counting_settled, counting_next, counting_none}
use Rattle.search.proofs.rows.Rows.count_steps.Goals as goal

pub loop-searched-init : goal.loop-searched-init
loop-searched-init c = (refl, record { list_long = length-replicate {A = ℕ} 129 0; counting = λ t g b. counting_start g b })

pub arrives-requires : goal.arrives-requires
arrives-requires c =
    let g = c.args.self.now.searchable in
    let h = c.loop-searched.invariant.1.counting c.args.self.now.terms g c.requires.1 in
    (end_few g h, found_few g h)

pub returns-then-arrives : goal.returns-then-arrives
returns-then-arrives c =
    let g = c.args.self.now.searchable in
    counting_found g (c.loop-searched.invariant.1.counting c.args.self.now.terms g c.requires.1) (omega arith) _ (c.arrives.ensures.found c.if-arrives.true) (omega arith) (omega arith)

pub step-v-requires : goal.step-v-requires
step-v-requires c =
    let g = c.args.self.now.searchable in
    can_step g (c.loop-searched.invariant.1.counting c.args.self.now.terms g c.requires.1) (omega arith) (omega arith) c.loop-searched.invariant.1.list_long

pub returns-then-v : goal.returns-then-v
returns-then-v c =
    let g = c.args.self.now.searchable in
    counting_settled g (c.loop-searched.invariant.1.counting c.args.self.now.terms g c.requires.1) (omega arith) c.step-v.ensures.0 _ c.if-v.true

pub loop-searched-preserved : goal.loop-searched-preserved
loop-searched-preserved c = (
  omega (arith, ap (λ (x : Window). x.step) c.step-v.ensures.0.moved),
  record {
    list_long = c.step-v.ensures.1;
    counting = λ t g b. counting_next g (c.loop-searched.invariant.1.counting t g b) (omega arith) c.step-v.ensures.0 (omega arith) (c.arrives.ensures.none c.if-arrives.false);
  },
)

pub returns : goal.returns
returns c =
    let g = c.args.self.now.searchable in
    counting_none g (c.loop-searched.invariant.1.counting c.args.self.now.terms g c.requires.1) _ (omega arith)
