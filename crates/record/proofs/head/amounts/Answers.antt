use Rattle.contract.specs.Field.{amounts}
use Rattle.record.proofs.Laws.{got, stop}
use Rattle.record.proofs.head.amounts.Goals as goal

pub returns-in_err-price : goal.returns-in_err-price
unfolding amounts
returns-in_err-price c = stop _ c.in_err-price.ensures c.from_residual.ensures.1

pub returns-in_err-supplier : goal.returns-in_err-supplier
unfolding amounts
returns-in_err-supplier c = rw (got c.in_ok-price.ensures) (stop _ c.in_err-supplier.ensures c.from_residual-in_err-supplier.ensures.1)

pub returns-in_err-buyer : goal.returns-in_err-buyer
unfolding amounts
returns-in_err-buyer c = rw (got c.in_ok-price.ensures, got c.in_ok-supplier.ensures) (stop _ c.in_err-buyer.ensures c.from_residual-in_err-buyer.ensures.1)

pub returns : goal.returns
unfolding amounts
returns c =
    record {
      meets = simp (got c.in_ok-price.ensures, got c.in_ok-supplier.ensures, got c.in_ok-buyer.ensures);
      known = tt;
    }
