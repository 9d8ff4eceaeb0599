-- For every record and areas exactly one outcome keeps the promise of planning. Assumes nothing.
use mathlib.Core.Path.{◌≡◌, refl}
use mathlib.Core.Bool.{Bool, true, false}
use mathlib.Core.List.{List}
use Prim.Native.Nat.{ℕ}
use Rattle.contract.specs.Res.{Res, refused, ok, bind, test}
use Rattle.contract.specs.Contract.{Contract}
use Rattle.contract.specs.Parse.{parse}
use Rattle.contract.specs.Valid.{Valid}
use Rattle.contract.specs.declared.Form.{Form}
use Rattle.contract.specs.declared.Form.TheVariants.{Ladder, UnitPrices, Table}
use Rattle.contract.proofs.ParsedValid.{parsed_valid}
use Rattle.exchange.specs.declared.Objective.{Objective}
use Rattle.exchange.specs.declared.Sides.{Sides}
use Rattle.planning.specs.Areas.{Areas, room_for}
use Rattle.planning.specs.Deals.{sides_of, contract_with}
use Rattle.planning.specs.Promise.{roomed, along_order, ahead, ahead_along}
use Rattle.planning.specs.OneAnswer.{ByteAreas, Keeps, ExactlyOne, OneAnswer, OneAnswerFor}
use Rattle.planning.proofs.SameOutcome.{refused_one, contract_one}
use Rattle.planning.proofs.SomeOutcome.{Kept, refused_kept, along_kept, table_kept}

module _ (before : Areas) (b : ByteAreas before) where
  refused_exactly : (aim : Objective) (e : ℕ) → ExactlyOne (Keeps aim (refused e) before)
  refused_exactly aim e =
      let (o, kept) = refused_kept before b aim e in
      record { one = o; kept = kept; only = λ u h. refused_one aim before u o e h kept }

  -- a contract, of which some outcome is kept where there is room
  roomed_exactly : (aim : Objective) (k : Contract) → Valid k → (room_for k before ≡ true → Kept aim (ok k) before)
      → ExactlyOne (Keeps aim (roomed k before) before)
  roomed_exactly aim k v some = go (room_for k before) refl
    where
      go : (t : Bool) → room_for k before ≡ t → ExactlyOne (Keeps aim (test 8 t (ok k)) before)
      go true h = let (o, kept) = some h in record { one = o; kept = kept; only = λ u p. contract_one aim before u o k v h p kept }
      go false h = refused_exactly aim 8

  -- whatever its form
  form_kept : (f : Form) (s : Sides) (us cs vs : List ℕ) → Valid (contract_with f s us cs vs) → room_for (contract_with f s us cs vs) before ≡ true
      → Kept Objective.Steps (ok (contract_with f s us cs vs)) before
  form_kept Ladder s us cs vs v h = along_kept before b Objective.Steps Ladder refl s us cs vs v h
  form_kept UnitPrices s us cs vs v h = along_kept before b Objective.Steps UnitPrices refl s us cs vs v h
  form_kept Table s us cs vs v h = table_kept before b s us cs vs v h

pub one_answer : OneAnswer
unfolding ahead
one_answer bytes before b = go (parse bytes) refl
  where
    go : (x : Res Contract) → parse bytes ≡ x → ExactlyOne (Keeps Objective.Steps (bind x (λ k. roomed k before)) before)
    go (refused e) read = refused_exactly before b Objective.Steps e
    go (ok k) read =
        let v = parsed_valid bytes k read in
        roomed_exactly before b Objective.Steps k v (form_kept before b k.form (sides_of k) k.units k.costs k.values v)

pub one_answer_for : (aim : Objective) → OneAnswerFor aim
unfolding ahead_along
one_answer_for aim bytes before b = go (parse bytes) refl
  where
    along : (k : Contract) → Valid k → (t : Bool) → along_order k.form ≡ t → ExactlyOne (Keeps aim (test 2 t (roomed k before)) before)
    along k v true o =
        roomed_exactly before b aim k v (along_kept before b aim k.form o (sides_of k) k.units k.costs k.values v)
    along k v false o = refused_exactly before b aim 2

    go : (x : Res Contract) → parse bytes ≡ x → ExactlyOne (Keeps aim (bind x (λ k. test 2 (along_order k.form) (roomed k before))) before)
    go (refused e) read = refused_exactly before b aim e
    go (ok k) read = along k (parsed_valid bytes k read) (along_order k.form) refl
