-- The rows that a brought plan goes over.
use Rattle.exchange.specs.Deal.{Deal}
use Rattle.exchange.specs.Forms.{table}
use Rattle.checks.specs.declared.rows.Rows.{Rows}

-- the deal of their table
abbrev pub deal_over : Rows → Deal
deal_over r = table r.terms.sides r.terms.units.now r.terms.costs.now r.terms.values.now
