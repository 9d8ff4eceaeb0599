-- What the code's head stands for.
use Rattle.std.specs.Prelude.{◌≡◌, List, ℕ, Result}
use Rattle.contract.specs.Res.{Res, ok}
use Rattle.contract.specs.Field as field
use Rattle.contract.specs.declared.Form.{Form}
use Rattle.contract.specs.declared.Refusal.{Refusal}
use Rattle.record.specs.View.Answer.{Gives}
use Rattle.record.specs.declared.head.Head.{Head}

-- what reading the form gives
abbrev pub Formed : Res Form → Result Form Refusal → Type 0
Formed answer r = Gives (λ f. f) answer (λ f. Unit {0}) r

-- the head that the code's struct holds
abbrev pub head_of : Head → field.Head
head_of h = record { form = h.form; price = h.price; supplier = h.supplier; buyer = h.buyer; next = h.next }

-- what reading the head gives
abbrev pub Heads : Res field.Head → Result Head Refusal → Type 0
Heads answer r = Gives head_of answer (λ h. Unit {0}) r

-- the head of the record s of a ladder
pub record LadderHead (s : List ℕ) (h : field.Head) : Type 0 where
  pub said : field.head_at s ≡ ok h
  pub form_is : h.form ≡ Form.Ladder
