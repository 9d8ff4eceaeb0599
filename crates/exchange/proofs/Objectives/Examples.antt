-- What the two starts give in examples, by computation. Assumes nothing.
use mathlib.Core.Path.{◌≡◌, refl}
use mathlib.Core.List.{[], ◌∷◌}
use Prim.Native.Nat.{ℕ}
use Rattle.exchange.specs.Bounds.{unclipped_upper_of, unclipped_lower_of, upper_of, lower_of}
use Rattle.exchange.specs.Deal.{Deal, State, start}
use Rattle.exchange.specs.Forms.{along, ladder}
use Rattle.exchange.specs.Rule.{reach, rule, ruled}
use Rattle.exchange.specs.Objectives.{rises, count, pays, delivers, moves, delivery_only, payment_only, opening, smaller}

abbrev at : ℕ → ℕ → State
at b q = record { place = b; paid = q }

-- two units of cost 4 and value 6
abbrev two : ℕ → ℕ → ℕ → Deal
two price supplier buyer = ladder (record { price = price; supplier = supplier; buyer = buyer }) (4 ∷ 4 ∷ []) (6 ∷ 6 ∷ [])

-- P 10, leaving costs of 5: the rule makes two steps of two moves each; a delivery first saves a payment, a payment first saves a delivery
abbrev free : Deal
free = two 10 5 5

delivery_first : opening (delivery_only free) (ruled free (delivery_only free) 2) ≡ at 1 0 ∷ at 1 10 ∷ at 2 10 ∷ []
unfolding unclipped_upper_of unclipped_lower_of upper_of lower_of along reach rule ruled rises delivery_only opening
delivery_first = refl

payment_first : opening (payment_only free) (ruled free (payment_only free) 2) ≡ at 0 7 ∷ at 2 7 ∷ at 2 10 ∷ []
unfolding unclipped_upper_of unclipped_lower_of upper_of lower_of along reach rule ruled rises payment_only opening
payment_first = refl

-- three moves each: the payment start is taken
tie : smaller (at 0 7 ∷ at 2 7 ∷ at 2 10 ∷ []) (at 1 0 ∷ at 1 10 ∷ at 2 10 ∷ []) ≡ at 0 7 ∷ at 2 7 ∷ at 2 10 ∷ []
unfolding rises smaller
tie = refl

counts : (count pays start (at 1 0 ∷ at 1 10 ∷ at 2 10 ∷ []) ≡ 1) × (count delivers start (at 0 7 ∷ at 2 7 ∷ at 2 10 ∷ []) ≡ 1)
    × (count moves start (ruled free start 2) ≡ 4)
unfolding unclipped_upper_of unclipped_lower_of upper_of lower_of along reach rule ruled rises
counts = (refl, refl, refl)

-- case A: nothing can be delivered first, so that step is dropped; where P is the whole cost and cs is 0, nothing can be paid first
dropped_delivery : opening (delivery_only (two 10 1 3)) [] ≡ []
unfolding unclipped_upper_of unclipped_lower_of upper_of lower_of along reach rule rises delivery_only opening
dropped_delivery = refl

dropped_payment : opening (payment_only (two 8 0 4)) [] ≡ []
unfolding unclipped_upper_of unclipped_lower_of upper_of lower_of along reach rule rises payment_only opening
dropped_payment = refl
