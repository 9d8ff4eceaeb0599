use borrow.Author.Tests.{le-leb}
use Rattle.order.proofs.Laws.{names_twice, names_zeros}
use Rattle.order.proofs.names_each.Goals as goal

pub returns-then-each_once : goal.returns-then-each_once
returns-then-each_once c =
    let a = c.args in
    rw (le-leb _ 8 c.if-n-gt8.false, le-leb 8 _ c.if-order-lt8.false, c.all_zero.ensures)
    (names_zeros a.n a.order.now _ c.each_once.ensures c.if-each_once.true c.if-n-gt8.false c.if-order-lt8.false)

pub returns-else-each_once : goal.returns-else-each_once
returns-else-each_once c =
    let a = c.args in
    rw (le-leb _ 8 c.if-n-gt8.false, le-leb 8 _ c.if-order-lt8.false, c.if-each_once.false)
    (names_twice a.n a.order.now _ c.each_once.ensures c.if-each_once.false)
