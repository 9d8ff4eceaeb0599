-- Sums over orders of units: how often an item stands in a list, and what its units come to. Assumes nothing.
use mathlib.Core.Path.{◌≡◌, refl, sym, ap, ◌∙◌}
use mathlib.Core.Bool.{Bool, true, false, cond}
use mathlib.Core.Logic.{◌⊎◌, inl, inr, ⊎_elim, dite}
use mathlib.Core.List.{List, [], ◌∷◌, ◌++◌, reverse, reverse-cons}
use Prim.Native.Nat.{ℕ, zero, suc, ◌+◌, ◌*◌, ◌≤◌, ◌<◌}
use native.Mathlib.Decide.{ℕ_discrete, dec_lt}
use native.Mathlib.Nat.{add-mul}
use native.Mathlib.Omega.{arith}
use lib.Dec.{eqb}
use lib.ListN.{length, replicate, get_or-eq_default}
use borrow.Author.Tests.{eq-eqb, ne_eqb}
use Rattle.exchange.specs.Forms.{along, occurs, Order}
use Rattle.exchange.specs.Chosen.{at, together}
use Rattle.exchange.specs.Choice.{sum_over, all_items}

abbrev pub num : Bool → ℕ
num b = cond b 1 0

pub num_most : (b : Bool) → num b ≤ 1
num_most true = omega arith
num_most false = omega arith

-- the sum of w over the units of a list
abbrev pub sum : (ℕ → ℕ) → List ℕ → ℕ
sum w [] = 0
sum w (x ∷ l) = w x + sum w l

pub along_all : (w : ℕ → ℕ) (l : List ℕ) → along w l (length l) ≡ sum w l
unfolding along
along_all w [] = refl
along_all w (x ∷ l) = omega (arith, along_all w l)

pub along_none : (w : ℕ → ℕ) (l : List ℕ) → along w l 0 ≡ 0
unfolding along
along_none w [] = refl
along_none w (x ∷ l) = refl

pub bool_cases : (b : Bool) → (b ≡ true) ⊎ (b ≡ false)
bool_cases true = inl refl
bool_cases false = inr refl

-- a number is another or not, with what the test counts
pub same_cases : (y x : ℕ) → ((y ≡ x) × (num (eqb y x) ≡ 1)) ⊎ ((y ≡ x → ⊥) × (num (eqb y x) ≡ 0))
same_cases y x = go (ℕ_discrete y x)
  where
    go : Dec (y ≡ x) → ((y ≡ x) × (num (eqb y x) ≡ 1)) ⊎ ((y ≡ x → ⊥) × (num (eqb y x) ≡ 0))
    go (yes e) = inl (e, ap num (eq-eqb y x e))
    go (no n) = inr (n, ap num (ne_eqb y x n))

-- ---- how often an item occurs

pub occurs_append : (x : ℕ) (s t : List ℕ) → occurs x (s ++ t) ≡ occurs x s + occurs x t
unfolding occurs
occurs_append x [] t = omega arith
occurs_append x (y ∷ s) t = omega (arith, occurs_append x s t)

pub occurs_reverse : (x : ℕ) (l : List ℕ) → occurs x (reverse l) ≡ occurs x l
unfolding occurs
occurs_reverse x [] = refl
occurs_reverse x (y ∷ l) = rw (reverse-cons, occurs_append x (reverse l) (y ∷ []), occurs_reverse x l) (omega arith)

occurs_replicate : (x k i : ℕ) → occurs x (replicate k i) ≡ num (eqb i x) * k
unfolding occurs
occurs_replicate x zero i = omega arith
occurs_replicate x (suc k) i = omega (arith, occurs_replicate x k i)

pub occurs_together : (units : List ℕ) (x : ℕ) (l : List ℕ) → occurs x (together units l) ≡ occurs x l * at units x
unfolding together occurs
occurs_together units x [] = omega arith
occurs_together units x (i ∷ l) =
    let a = occurs_append x (replicate (at units i) i) (together units l) in
    let r = occurs_replicate x (at units i) i in
    let t = occurs_together units x l in
    ⊎_elim
    (λ h.
    omega (arith, a, r, t, ap (at units) h.0, ap (λ (k : ℕ). k * at units i) h.1, ap (λ (k : ℕ). k * at units x) h.1))
    (λ h. omega (arith, a, r, t, ap (λ (k : ℕ). k * at units i) h.1, ap (λ (k : ℕ). k * at units x) h.1))
    (same_cases i x)

-- each item once, with all its units together, is an order
pub once_order : (units items : List ℕ) → ((x : ℕ) → x < length units → occurs x items ≡ 1) → Order units (together units items)
once_order units items once x =
    occurs_together units x items
    ∙ dite
    (dec_lt x (length units))
    (λ h. rw (once x h) (omega arith))
    (λ (h : x < length units → ⊥). rw (get_or-eq_default units 0 {n = x} (omega arith)) (omega arith))

occurs_items : (n x : ℕ) → x < n → occurs x (all_items n) ≡ 1
unfolding occurs all_items
occurs_items zero x h = absurd (omega arith)
occurs_items (suc n) x h =
    ⊎_elim
    (λ e. omega (arith, e.1, past n x (omega (arith, e.0))))
    (λ e. omega (arith, e.1, occurs_items n x (omega (arith, e.0))))
    (same_cases n x)
  where
    past : (n x : ℕ) → n ≤ x → occurs x (all_items n) ≡ 0
    past zero x h = refl
    past (suc n) x h = omega (arith, past n x (omega arith), ap num (ne_eqb n x (λ e. omega arith)))

-- ---- sums

pub sum_append : (w : ℕ → ℕ) (s t : List ℕ) → sum w (s ++ t) ≡ sum w s + sum w t
sum_append w [] t = omega arith
sum_append w (y ∷ s) t = omega (arith, sum_append w s t)

pub sum_reverse : (w : ℕ → ℕ) (l : List ℕ) → sum w (reverse l) ≡ sum w l
sum_reverse w [] = refl
sum_reverse w (x ∷ l) = rw (reverse-cons, sum_append w (reverse l) (x ∷ []), sum_reverse w l) (omega arith)

pub sum_le : (f g : ℕ → ℕ) → ((x : ℕ) → f x ≤ g x) → (l : List ℕ) → sum f l ≤ sum g l
sum_le f g e [] = omega arith
sum_le f g e (x ∷ l) = omega (arith, e x, sum_le f g e l)

-- of what is equal at every unit of the list
sum_same : (f g : ℕ → ℕ) (l : List ℕ) → ((x : ℕ) → 0 < occurs x l → f x ≡ g x) → sum f l ≡ sum g l
unfolding occurs
sum_same f g [] e = refl
sum_same f g (y ∷ l) e =
    omega (arith, e y (omega (arith, ap num (eq-eqb y y refl))), sum_same f g l (λ x h. e x (omega arith)))

sum_zero : (l : List ℕ) → sum (λ x. 0) l ≡ 0
sum_zero [] = refl
sum_zero (x ∷ l) = omega (arith, sum_zero l)

sum_add : (f g : ℕ → ℕ) (l : List ℕ) → sum (λ x. f x + g x) l ≡ sum f l + sum g l
sum_add f g [] = omega arith
sum_add f g (x ∷ l) = omega (arith, sum_add f g l)

-- the units of one item
sum_one : (w : ℕ → ℕ) (i : ℕ) (l : List ℕ) → sum (λ x. num (eqb i x) * w x) l ≡ occurs i l * w i
unfolding occurs
sum_one w i [] = omega arith
sum_one w i (x ∷ l) =
    ⊎_elim
    (λ h. rw (h.1, sum_one w i l, h.0) (rw (eq-eqb x x refl, add-mul) (ap (λ (y : ℕ). 1 * w x + occurs y l * w x) (sym h.0))))
    (λ h. rw (h.1, sum_one w i l, ne_eqb x i (λ e. h.0 (sym e))) (omega arith))
    (same_cases i x)

sum_replicate : (w : ℕ → ℕ) (k i : ℕ) → sum w (replicate k i) ≡ k * w i
sum_replicate w zero i = omega arith
sum_replicate w (suc k) i = omega (arith, sum_replicate w k i)

pub sum_together : (units : List ℕ) (w : ℕ → ℕ) (l : List ℕ) → sum w (together units l) ≡ sum_over units w l
unfolding together sum_over
sum_together units w [] = refl
sum_together units w (i ∷ l) =
    omega (arith, sum_append w (replicate (at units i) i) (together units l), sum_replicate w (at units i) i, sum_together units w l)

-- only items of the list have units
pub below_length : (units : List ℕ) (x : ℕ) → 0 < at units x → x < length units
below_length units x h =
    dite (dec_lt x (length units)) (λ l. l) (λ (n : x < length units → ⊥). absurd (omega (arith, get_or-eq_default units 0 {n = x} (omega arith))))

module _ (units : List ℕ) (w : ℕ → ℕ) (σ : List ℕ) (o : Order units σ) where
  -- the sum over the units of some items, taken along an order of all units
  pub sum_over_lem : (l : List ℕ) → sum_over units w l ≡ sum (λ x. occurs x l * w x) σ
  unfolding sum_over occurs
  sum_over_lem [] = sym (sum_same (λ x. 0 * w x) (λ x. 0) σ (λ x h. omega arith) ∙ sum_zero σ)
  sum_over_lem (i ∷ l) =
      omega (
        arith,
        sum_over_lem l,
        sum_same (λ x. occurs x (i ∷ l) * w x) (λ x. num (eqb i x) * w x + occurs x l * w x) σ (λ x h. omega arith),
        sum_add (λ x. num (eqb i x) * w x) (λ x. occurs x l * w x) σ,
        sum_one w i σ,
        ap (λ (k : ℕ). k * w i) (o i),
      )

  -- all units of an order come to the items' total
  pub sum_order : sum w σ ≡ sum_over units w (all_items (length units))
  sum_order =
      sym (sum_over_lem (all_items (length units)) ∙ sum_same (λ x. occurs x (all_items (length units)) * w x) w σ one)
    where
      one : (x : ℕ) → 0 < occurs x σ → occurs x (all_items (length units)) * w x ≡ w x
      one x h = rw (occurs_items (length units) x (below_length units x (omega (arith, o x)))) (omega arith)

-- ---- lists in which no item stands twice

-- how many entries of the list are below n
abbrev pub tally : ℕ → List ℕ → ℕ
tally n l = sum (λ x. occurs x l) (all_items n)

pub tally_length : (n : ℕ) (l : List ℕ) → ((x : ℕ) → 0 < occurs x l → x < n) → tally n l ≡ length l
unfolding occurs
tally_length n [] h = sum_zero (all_items n)
tally_length n (i ∷ l) h =
    let i_below : i < n = h i (omega (arith, ap num (eq-eqb i i refl))) in
    omega (
      arith,
      tally_length n l (λ x p. h x (omega arith)),
      sum_add (λ x. num (eqb i x)) (λ x. occurs x l) (all_items n),
      sum_same (λ x. num (eqb i x)) (λ x. num (eqb i x) * 1) (all_items n) (λ x p. omega arith),
      sum_one (λ x. 1) i (all_items n),
      occurs_items n i i_below,
    )

module _ (l : List ℕ) where
  pub tally_once : (n : ℕ) → ((x : ℕ) → x < n → occurs x l ≡ 1) → tally n l ≡ n
  unfolding all_items
  tally_once zero h = refl
  tally_once (suc n) h = omega (arith, h n (omega arith), tally_once n (λ x p. h x (omega arith)))

  module _ (h : (x : ℕ) → occurs x l ≤ 1) where
    tally_most : (n : ℕ) → tally n l ≤ n
    unfolding all_items
    tally_most zero = omega arith
    tally_most (suc n) = omega (arith, h n, tally_most n)

    -- as many as there are items: each stands in the list
    pub tally_full : (n : ℕ) → tally n l ≡ n → (x : ℕ) → x < n → occurs x l ≡ 1
    unfolding all_items
    tally_full zero e x p = absurd (omega arith)
    tally_full (suc n) e x p =
        dite
        (ℕ_discrete x n)
        (λ q. rw q (omega (arith, h n, tally_most n)))
        (λ (q : x ≡ n → ⊥). tally_full n (omega (arith, h n, tally_most n)) x (omega arith))
