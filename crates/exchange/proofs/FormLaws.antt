-- The deals of the three forms rise, so that the bridge holds of each. Assumes nothing.
use mathlib.Core.Path.{◌≡◌}
use mathlib.Core.Bool.{Bool, true}
use mathlib.Core.List.{List, [], ◌∷◌}
use Prim.Native.Nat.{ℕ, zero, suc, ◌≤◌, ◌<◌}
use native.Mathlib.Nat.{le_refl}
use native.Mathlib.Omega.{arith}
use lib.Dec.{T, leb, leb→le, le→leb}
use lib.ListN.{length}
use Rattle.grid.specs.Rows.{rows_of, rising}
use Rattle.grid.proofs.RowLaws.{rows_pos}
use Rattle.exchange.specs.Bounds.{Terms}
use Rattle.exchange.specs.Deal.{deal_of}
use Rattle.exchange.specs.Forms.{along, ladder_terms, order_terms, line, ladder, in_order, holds_row, table}
use Rattle.exchange.specs.Work.{Rising}
use Rattle.exchange.specs.declared.Sides.{Sides}
use Rattle.exchange.proofs.BoundLaws.{upper_rises, lower_rises, start_within, end_safe}
use Rattle.exchange.proofs.TableLaws.{row_self, row_start, rows_rise}

-- up to the last place, no place has less than one whose units it holds
abbrev Rises : (ℕ → ℕ → Bool) → ℕ → (ℕ → ℕ) → Type 0
Rises holds last f = (a b : ℕ) → a ≤ last → b ≤ last → T (holds a b) → f a ≤ f b

terms_rising : (t : Terms) (holds : ℕ → ℕ → Bool) → ((a : ℕ) → T (holds a a)) → ((a : ℕ) → T (holds 0 a))
    → Rises holds t.last t.cost → Rises holds t.last t.value → Rising (deal_of t holds)
terms_rising t holds self from_start costs values =
    record {
      holds_self = self;
      holds_start = from_start;
      upper_rises = λ a b i j h. upper_rises t.price (t.cost t.last) t.supplier (costs a b i j h);
      lower_rises = λ a b i j h. lower_rises t.price (t.value t.last) t.buyer (values a b i j h);
      start_within = start_within t holds;
      end_safe = end_safe t holds;
    }

-- ---- along one order

line_rising : (t : Terms) → ((i j : ℕ) → i ≤ j → t.cost i ≤ t.cost j) → ((i j : ℕ) → i ≤ j → t.value i ≤ t.value j)
    → Rising (line t)
line_rising t costs values =
    terms_rising t leb (λ a. le→leb a a (le_refl a)) (λ a. le→leb 0 a (omega arith)) (λ a b i j h. costs a b (leb→le a b h))
    (λ a b i j h. values a b (leb→le a b h))

pub along_rises : (f : ℕ → ℕ) (σ : List ℕ) (i j : ℕ) → i ≤ j → along f σ i ≤ along f σ j
unfolding along
along_rises f [] i j h = le_refl 0
along_rises f (u ∷ σ) zero j h = omega arith
along_rises f (u ∷ σ) (suc i) zero h = absurd (omega arith)
along_rises f (u ∷ σ) (suc i) (suc j) h = omega (arith, along_rises f σ i j (omega arith))

pub ladder_rising : (p : Sides) (costs values : List ℕ) → Rising (ladder p costs values)
ladder_rising p costs values = line_rising (ladder_terms p costs values) (along_rises _ costs) (along_rises _ values)

pub order_rising : (p : Sides) (costs values σ : List ℕ) → Rising (in_order p costs values σ)
order_rising p costs values σ = line_rising (order_terms p costs values σ) (along_rises _ σ) (along_rises _ σ)

-- ---- over the rows of a table

pub table_rising : (p : Sides) (us costs values : List ℕ) → length costs ≡ rows_of us → length values ≡ rows_of us
    → rising us costs (length costs) ≡ true → rising us values (length values) ≡ true → Rising (table p us costs values)
table_rising p us costs values lc lv rc rv =
    let h : 0 < rows_of us = rows_pos us in
    terms_rising _ (holds_row us) (row_self us) (row_start us)
    (λ a b i j t. rows_rise costs us (rw lc at rc) a b (omega arith) (omega arith) t)
    (λ a b i j t. rows_rise values us (rw lv at rv) a b (omega arith) (omega arith) t)
