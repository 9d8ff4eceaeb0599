-- Facts of all cases of a table, one after the other. Assumes nothing.
use mathlib.Core.Path.{◌≡◌}
use mathlib.Core.List.{List, [], ◌∷◌}
use Prim.Native.Nat.{ℕ}
use Rattle.contract.specs.Res.{Res}
use Rattle.contract.specs.Contract.{Contract}
use Rattle.contract.specs.Parse.{parse}
use Rattle.cases.specs.Case.{Question, Answered, ClaimIn, Case, Every, AllHold}

infixr 1 ◌and◌
-- a fact and further facts, with no brackets around them
abbrev pub ◌and◌ : {A B : Type 0} → A → B → A × B
◌and◌ a b = (a, b)

-- each record says what its case says of it
abbrev pub AllRead : List Case → Type 0
AllRead [] = Unit {0}
AllRead (c ∷ cs) = (parse c.bytes ≡ c.says) × AllRead cs

-- the answer to a question is right: what it claims is so, and no other is allowed
pub record Right (bytes : List ℕ) (says : Res Contract) (q : Question) : Type 0 where
  pub claim : ClaimIn says q
  pub only : Answered bytes q

-- the answers to a record are right if it says what its case says of it
abbrev pub AllRight : List Case → Type 0
AllRight [] = Unit {0}
AllRight (c ∷ cs) = (parse c.bytes ≡ c.says → Every (Right c.bytes c.says) c.questions) × AllRight cs

every_so : {F G : Question → Type 0} → ((q : Question) → F q → G q) → (qs : List Question) → Every F qs → Every G qs
every_so h [] f = tt
every_so h (q ∷ qs) f = (h q f.0, every_so h qs f.1)

pub all_hold : (cs : List Case) → AllRead cs → AllRight cs → AllHold cs
all_hold [] r f = tt
all_hold (c ∷ cs) r f =
    let right = f.0 r.0 in (
      record {
        read = r.0;
        claimed = every_so (λ q a. a.claim) c.questions right;
        answered = every_so (λ q a. a.only) c.questions right;
      },
      all_hold cs r.1 f.1,
    )
