-- What asking for the bounds of a place promises.
use Rattle.std.specs.Prelude.{List, ℕ, leb, length}
use Rattle.contract.specs.Res.{Res, ok, bind, test}
use Rattle.contract.specs.Contract.{Contract}
use Rattle.contract.specs.Parse.{parse}
use Rattle.exchange.specs.Test.{bounds_at}
use Rattle.exchange.specs.declared.Bounds.{Bounds}
use Rattle.planning.specs.Deals.{last_place}
use Rattle.planning.specs.Order.{names_order, deal_by}

-- the bounds of a place of a contract along the order that the bytes name: 8 where these are too few, 5 for a place above L, then 12
abbrev pub bounds_in : Contract → ℕ → List ℕ → Res Bounds
bounds_in k x order =
    test 8 (leb 8 (length order)) (
    test 5 (leb x (last_place k)) (
    test 12 (names_order k order) (
    ok (bounds_at (deal_by k order) x))))

-- what a record says of a place
unfoldable pub bounds_of : List ℕ → ℕ → List ℕ → Res Bounds
bounds_of bytes x order = bind (parse bytes) (λ k. bounds_in k x order)
