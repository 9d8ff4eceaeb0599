-- Lists of units that the slack allows: joined, read from the other end, a block of one item, and the lemma of the greedy choice. A unit x
-- needs r x of the slack and gives back q x; the slack is a difference a − b. Assumes nothing.
use mathlib.Core.Path.{◌≡◌, refl, sym, ap, subst}
use mathlib.Core.Logic.{◌⊎◌, ⊎_elim}
use mathlib.Core.List.{List, [], ◌∷◌, ◌++◌, reverse, reverse-cons}
use Prim.Native.Nat.{ℕ, zero, suc, ◌+◌, ◌*◌, ◌≤◌, ◌<◌}
use native.Mathlib.Omega.{arith}
use lib.ListN.{length, replicate}
use borrow.Author.Tests.{eq-eqb}
use Rattle.exchange.specs.Forms.{along, occurs}
use Rattle.exchange.proofs.Choice.Sums.{num, sum, along_none, same_cases, sum_reverse, sum_le}

module _ (r q : ℕ → ℕ) where
  -- each unit of the list in turn needs at most the slack a − b
  abbrev pub Allowed : ℕ → ℕ → List ℕ → Type 0
  Allowed a b [] = Unit {0}
  Allowed a b (x ∷ l) = (b + r x ≤ a) × Allowed (a + q x) (b + r x) l

  -- only the slack counts, not the two numbers whose difference it is; more slack allows as much
  allowed_more : (l : List ℕ) (a b a' b' : ℕ) → a + b' ≤ a' + b → Allowed a b l → Allowed a' b' l
  allowed_more [] a b a' b' e f = tt
  allowed_more (x ∷ l) a b a' b' e f = (omega arith, allowed_more l (a + q x) (b + r x) (a' + q x) (b' + r x) (omega arith) f.1)

  pub allowed_append : (l m : List ℕ) (a b : ℕ) → Allowed a b l → Allowed (a + sum q l) (b + sum r l) m → Allowed a b (l ++ m)
  allowed_append [] m a b f g = allowed_more m (a + 0) (b + 0) a b (omega arith) g
  allowed_append (x ∷ l) m a b f g = (
    f.0,
    allowed_append l m (a + q x) (b + r x) f.1
        (allowed_more m (a + sum q (x ∷ l)) (b + sum r (x ∷ l)) (a + q x + sum q l) (b + r x + sum r l) (omega arith) g),
  )

  -- a block of an item that gives back at least what it needs
  pub allowed_block : (i k a b : ℕ) → r i ≤ q i → b + r i ≤ a → Allowed a b (replicate k i)
  allowed_block i zero a b g h = tt
  allowed_block i (suc k) a b g h = (h, allowed_block i k (a + q i) (b + r i) g (omega arith))

  -- the same by places: what the first i units and one more need, and what the first i give
  pub allowed_places : (σ : List ℕ) (a b : ℕ) → Allowed a b σ → (i : ℕ) → i < length σ → b + along r σ (suc i) ≤ a + along q σ i
  unfolding along
  allowed_places [] a b f i h = absurd (omega arith)
  allowed_places (x ∷ σ) a b f zero h = omega (arith, along_none r σ)
  allowed_places (x ∷ σ) a b f (suc i) h = omega (arith, allowed_places σ (a + q x) (b + r x) f.1 i (omega arith))

  pub places_allowed : (σ : List ℕ) (a b : ℕ) → ((i : ℕ) → i < length σ → b + along r σ (suc i) ≤ a + along q σ i) → Allowed a b σ
  unfolding along
  places_allowed [] a b f = tt
  places_allowed (x ∷ σ) a b f = (
    omega (arith, f 0 (omega arith), along_none r σ),
    places_allowed σ (a + q x) (b + r x) (λ i h. omega (arith, f (suc i) (omega arith))),
  )

-- read from the other end, with what is needed and what is given in each other's place
pub allowed_mirror : (r q : ℕ → ℕ) (l : List ℕ) (a b a' b' : ℕ) → a + sum q l + b' ≡ a' + (b + sum r l) → Allowed r q a b l
    → Allowed q r a' b' (reverse l)
allowed_mirror r q [] a b a' b' e f = tt
allowed_mirror r q (x ∷ l) a b a' b' e f =
    rw reverse-cons
    (allowed_append q r (reverse l) (x ∷ []) a' b' (allowed_mirror r q l (a + q x) (b + r x) a' b' (omega arith) f.1)
    (omega (arith, sum_reverse r l, sum_reverse q l), tt))

-- The greedy choice. Each item that has units is still open, or placed (k is 1) and gives back at least what it needs, or left to the other
-- end (k is 0) and gives back at most that. If a list is allowed from the slack a − b on and has a unit of an open item, then an open item
-- is allowed by the slack A − B, which has what all placed units of the list give.
module _
    (r q k : ℕ → ℕ)
    (Open : ℕ → Type 0)
    (gives : (x : ℕ) → k x * r x ≤ k x * q x)
  where
    pub greedy : (σ : List ℕ)
        → ((x : ℕ) → 0 < occurs x σ → Open x ⊎ (((k x ≡ 1) × (r x ≤ q x)) ⊎ ((k x ≡ 0) × (q x ≤ r x)))) → (a b A B : ℕ)
        → a + B + sum (λ x. k x * q x) σ ≤ A + b + sum (λ x. k x * r x) σ → Allowed r q a b σ → (x : ℕ) → Open x → 0 < occurs x σ
        → (y : ℕ) × Open y × (B + r y ≤ A)
    unfolding occurs
    greedy [] c a b A B e f x ox p = absurd (omega arith)
    greedy (y ∷ σ) c a b A B e f x ox p =
        let found : Open y → (z : ℕ) × Open z × (B + r z ≤ A) =
        λ o. (y, o, omega (arith, sum_le (λ x. k x * r x) (λ x. k x * q x) gives (y ∷ σ))) in
        let next : 0 < occurs x σ → a + q y + B + sum (λ x. k x * q x) σ ≤ A + (b + r y) + sum (λ x. k x * r x) σ
        → (z : ℕ) × Open z × (B + r z ≤ A) =
        λ p e. greedy σ (λ z h. c z (omega arith)) (a + q y) (b + r y) A B e f.1 x ox p in
        ⊎_elim
        (λ h. found (subst Open (sym h.0) ox))
        (λ h.
        ⊎_elim
        found
        (⊎_elim
        (λ z. next (omega (arith, h.1)) (omega (arith, ap (λ (j : ℕ). j * q y) z.0, ap (λ (j : ℕ). j * r y) z.0)))
        (λ z. next (omega (arith, h.1)) (omega (arith, z.1, ap (λ (j : ℕ). j * q y) z.0, ap (λ (j : ℕ). j * r y) z.0))))
        (c y (omega (arith, ap num (eq-eqb y y refl)))))
        (same_cases y x)
