-- Each return goes by the tests passed before it. Assumes nothing.
use mathlib.Core.Path.{refl}
use lib.ListN.{length}
use native.Mathlib.Omega.{arith}
use borrow.Author.Tests.{le-leb, lt-leb, eq-eqb, ne_eqb}
use Rattle.exchange.specs.Choice.{better}
use Rattle.choice.proofs.ItemLaws.{fits_first}
use Rattle.choice.proofs.order_end.OrderEnd.takes.Goals.{then-not-belongs-via-then-not-belongs, then-not-belongs-via-else-not-belongs+then-self-need}
use Rattle.choice.proofs.order_end.OrderEnd.takes.Goals as goal

pub returns-then-not-todo-j : goal.returns-then-not-todo-j
returns-then-not-todo-j c = rw (fits_first, c.if-not-todo-j.true)

pub returns-then-not-belongs : goal.returns-then-not-belongs
returns-then-not-belongs c =
    elim c.then-not-belongs.branch [
      | then-not-belongs-via-then-not-belongs w ↦
          rw (fits_first, ← c.amount-need.ensures.0, ← c.amount-give.ensures.0, c.if-not-todo-j.false, ← c.belongs.ensures, w.if-not-belongs.true)
      | then-not-belongs-via-else-not-belongs+then-self-need w ↦
          rw (fits_first, ← c.amount-need.ensures.0, ← c.amount-give.ensures.0, c.if-not-todo-j.false, ← c.belongs.ensures, w.if-not-belongs.false, lt-leb _ _ w.if-self-need.true)
    ]

pub returns-in-None : goal.returns-in-None
unfolding better
returns-in-None c =
    rw (
      fits_first,
      ← c.amount-need.ensures.0,
      ← c.amount-give.ensures.0,
      c.if-not-todo-j.false,
      ← c.belongs.ensures,
      c.if-not-belongs.false,
      le-leb _ _ c.if-self-need.false,
      c.in-None.is,
      eq-eqb _ _ refl,
    )

pub returns-in-Some : goal.returns-in-Some
unfolding better
returns-in-Some c =
    let below = rw c.in-Some.is at c.requires.1 in
    rw (
      fits_first,
      ← c.amount-need.ensures.0,
      ← c.amount-give.ensures.0,
      c.if-not-todo-j.false,
      ← c.belongs.ensures,
      c.if-not-belongs.false,
      le-leb _ _ c.if-self-need.false,
      c.in-Some.is,
      ne_eqb c.in-Some.i (length c.args.self.now.units.now) (λ e. omega arith),
      ← c.amount.ensures.0,
      ← c.amount-in-Some.ensures.0,
    )
