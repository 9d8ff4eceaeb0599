-- The bounds of a row.
use Rattle.std.specs.Prelude.{List, ℕ, ◌-◌, length, get_or}
use Rattle.exchange.specs.Bounds.{upper_of, lower_of}
use Rattle.exchange.specs.declared.Bounds.{Bounds}
use Rattle.exchange.specs.declared.Sides.{Sides}

-- the bounds of a row, by its cells and those of the last row
abbrev pub row_bounds : Sides → List ℕ → List ℕ → ℕ → Bounds
row_bounds p costs values row =
    record {
      lower = lower_of p.price (get_or values (length values - 1) 0) (get_or values row 0) p.buyer;
      upper = upper_of p.price (get_or costs (length costs - 1) 0) (get_or costs row 0) p.supplier;
    }
