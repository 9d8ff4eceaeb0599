-- A record that is not refused says a valid contract. Assumes nothing.
pub mod ResLaws
pub mod FieldLaws
pub mod HeadValid
pub mod SegmentLaws
pub mod SegmentsValid
pub mod CellsWithin
pub mod TableLaws
pub mod TableValid
use mathlib.Core.Path.{◌≡◌}
use mathlib.Core.Bool.{true, false}
use mathlib.Core.List.{List}
use Prim.Native.Nat.{ℕ}
use Rattle.contract.specs.Res.{ok}
use Rattle.contract.specs.Contract.{Contract}
use Rattle.contract.specs.Field.{Head, head_at}
use Rattle.contract.specs.Parse.{body_at, parse}
use Rattle.contract.specs.Valid.{Valid}
use Rattle.contract.specs.declared.Form.{Form}
use Rattle.contract.specs.declared.Form.TheVariants.{Ladder, UnitPrices, Table}
use Rattle.contract.proofs.ParsedValid.ResLaws.{bind_inv}
use Rattle.contract.proofs.ParsedValid.FieldLaws.{HeadWithin, head_within}
use Rattle.contract.proofs.ParsedValid.HeadValid.{headed}
use Rattle.contract.proofs.ParsedValid.SegmentsValid.{segments_valid}
use Rattle.contract.proofs.ParsedValid.TableValid.{table_valid}

body_valid : (f : Form) (s : List ℕ) (h : Head) (k : Contract) → HeadWithin h.price h.supplier h.buyer
    → body_at f s (headed f h) ≡ ok k → Valid k
body_valid Ladder s h k w e = segments_valid false s h k w e
body_valid UnitPrices s h k w e = segments_valid true s h k w e
body_valid Table s h k w e = table_valid s h k w e

pub parsed_valid : (s : List ℕ) (k : Contract) → parse s ≡ ok k → Valid k
unfolding parse
parsed_valid s k e =
    let (h, eh, eb) = bind_inv (head_at s) _ e in
    body_valid h.form s h k (head_within s h eh) eb
