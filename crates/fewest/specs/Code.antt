-- What the private functions give.
use Rattle.std.specs.Prelude.{◌≡◌, List, ℕ}
use Rattle.contract.specs.Res.{refused}
use Rattle.contract.specs.Contract.{number_of}
use Rattle.contract.specs.declared.Refusal.{Refusal}
use Rattle.planning.specs.Areas.{Areas}
use Rattle.planning.specs.Promise.{ahead_along}

-- a record is refused so, whatever the areas
abbrev pub Refuses : List ℕ → Refusal → Type 0
Refuses bytes e = (a : Areas) → ahead_along bytes a ≡ refused (number_of e)
