-- The byte areas that are lent for a plan.
use Rattle.std.specs.Prelude.{◌≡◌, Bool, true, ◌&&◌, List, [], ℕ, ◌+◌, ◌*◌, leb, length, replicate}
use Rattle.area.specs.Entries.{entries}
use Rattle.grid.specs.Rows.{rows_of}
use Rattle.contract.specs.Contract.{Contract}
use Rattle.contract.specs.declared.Form.{Form}
use Rattle.contract.specs.declared.Form.TheVariants.{Ladder, UnitPrices, Table}
use Rattle.planning.specs.Deals.{unit_count}

-- places in two bytes each, sums in four, order bytes, and a work area
pub record Areas : Type 0 where
  pub places : List ℕ
  pub sums : List ℕ
  pub order : List ℕ
  pub work : List ℕ

-- the four areas as one
abbrev pub areas : List ℕ → List ℕ → List ℕ → List ℕ → Areas
areas places sums order work = record { places = places; sums = sums; order = order; work = work }

-- the areas of a plan that needs no work area
abbrev pub plan_areas : List ℕ → List ℕ → List ℕ → Areas
plan_areas places sums order = areas places sums order []

-- "for a table rows × (2U + 2) work bytes"
abbrev pub work_for : Form → List ℕ → ℕ → ℕ
work_for Ladder units u = 0
work_for UnitPrices units u = 0
work_for Table units u = rows_of units * (2 * u + 2)

-- whether there is room for u units and this much work: "2U + 1 places (16 bits) and 2U + 1 sums (32 bits), eight order bytes"
unfoldable pub has_room : ℕ → ℕ → Areas → Bool
has_room u bytes a =
    leb (2 * u + 1) (length (entries 2 a.places)) && leb (2 * u + 1) (length (entries 4 a.sums)) && leb 8 (length a.order)
    && leb bytes (length a.work)

-- whether the areas have room for a plan of a contract
abbrev pub room_for : Contract → Areas → Bool
room_for k a = has_room (unit_count k) (work_for k.form k.units (unit_count k)) a

-- areas with room for a plan of every contract: 1,000 units, and the work bytes of 128 rows with 127 units
abbrev pub Roomy : Areas → Type 0
Roomy a = has_room 1000 (128 * 256) a ≡ true

-- the areas with the work area all zero
abbrev pub work_cleared : Areas → Areas
work_cleared a = record { places = a.places; sums = a.sums; order = a.order; work = replicate (length a.work) 0 }
