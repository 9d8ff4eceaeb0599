-- The record of a contract.
use Rattle.std.specs.Prelude.{Bool, true, false, cond, ℕ, ◌+◌, ◌*◌, leb, eqb, length}
use mathlib.Core.List.{List, [], ◌∷◌, ◌++◌, flat_map}
use Rattle.area.specs.Entries.{digits}
use Rattle.grid.specs.Map.{map_size, standing_cells}
use Rattle.grid.specs.Cells.{row_map}
use Rattle.contract.specs.Res.{Res, ok, test}
use Rattle.contract.specs.Contract.{Contract, entries_in, units_in, contract_of}
use Rattle.contract.specs.Valid.{in_range, within_limit, rises, segment_units}
use Rattle.contract.specs.declared.Form.{Form}
use Rattle.contract.specs.declared.Form.TheVariants.{Ladder, UnitPrices, Table}
use Rattle.contract.specs.declared.Header.{Header}

-- the map's bits from 3 on that name a form
abbrev pub form_bits : Form → ℕ
form_bits Ladder = 1
form_bits UnitPrices = 2
form_bits Table = 4

-- the map: bits 0, 1, 2 for P, cs, cd where they are not zero, then the form
unfoldable pub map_of : Contract → ℕ
map_of k = cond (eqb k.price 0) 0 1 + cond (eqb k.supplier 0) 0 2 + cond (eqb k.buyer 0) 0 4 + 8 * form_bits k.form

-- P, cs or cd; nothing for 0
unfoldable pub money_bytes : ℕ → List ℕ
money_bytes v = cond (eqb v 0) [] (digits 4 v)

-- the segments of a ladder (false) or of unit prices (true): the units of an item, the cost and the value of a unit
unfoldable pub segment_bytes : Bool → List ℕ → List ℕ → List ℕ → List ℕ
segment_bytes p (u ∷ us) (c ∷ cs) (v ∷ vs) = (cond p (digits 1 u) [] ++ digits 4 c ++ digits 4 v) ++ segment_bytes p us cs vs
segment_bytes p (u ∷ us) (c ∷ cs) [] = []
segment_bytes p (u ∷ us) [] vs = []
segment_bytes p [] cs vs = []

-- a row map and the cells that stand in it; "The writer leaves blank every cell that this rule restores"
unfoldable pub grid_bytes : List ℕ → List ℕ → List ℕ
grid_bytes us cells =
    let map : List ℕ = row_map us cells (length cells) (map_size (length cells)) in
    map ++ flat_map (digits 4) (standing_cells map cells (length cells))

-- what follows the amounts, by the form
unfoldable pub body_bytes : Form → List ℕ → List ℕ → List ℕ → List ℕ
body_bytes Ladder us cs vs = digits 2 (length cs) ++ segment_bytes false (segment_units Ladder us cs) cs vs
body_bytes UnitPrices us cs vs = digits 1 (length us) ++ segment_bytes true us cs vs
body_bytes Table us cs vs = digits 1 (length us) ++ flat_map (digits 1) us ++ grid_bytes us cs ++ grid_bytes us vs

-- the record of a contract, as the writer writes it
unfoldable pub serialize : Contract → List ℕ
serialize k =
    digits 2 (map_of k) ++ money_bytes k.price ++ money_bytes k.supplier ++ money_bytes k.buyer
    ++ body_bytes k.form k.units k.costs k.values

-- the record of a contract, or a refusal: 4, 6, and 8 for an output area of fewer bytes
unfoldable pub record_of : Contract → ℕ → Res (List ℕ)
record_of k room =
    test 4 (within_limit k) (
    test 6 (rises k.form k.units k.costs) (
    test 6 (rises k.form k.units k.values) (
    test 8 (leb (length (serialize k)) room) (
    ok (serialize k)))))

-- what the writer writes of a header and two areas: 5, then 8 for an input area shorter than its counts say, then as above
unfoldable pub writing : Header → List ℕ → List ℕ → ℕ → Res (List ℕ)
writing h cs vs room =
    test 5 (in_range h.form h.count (units_in h.form h.count h.units)) (
    test 8 (leb (entries_in h.form h.count h.units) (length cs)) (
    test 8 (leb (entries_in h.form h.count h.units) (length vs)) (
    record_of (contract_of h cs vs) room)))
