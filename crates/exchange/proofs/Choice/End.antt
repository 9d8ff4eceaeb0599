-- Placing items from one end: what is placed is allowed there, and all of the end's items are placed if any order of the units is allowed.
-- Used for both ends. Assumes nothing.
use mathlib.Core.Path.{◌≡◌, refl, ap, ◌∙◌}
use mathlib.Core.Bool.{true, false}
use mathlib.Core.Logic.{◌⊎◌, inl, inr, ⊎_elim, dite}
use mathlib.Core.List.{List, [], ◌∷◌, ◌++◌, append-nil, append_assoc}
use Prim.Native.Nat.{ℕ, zero, suc, ◌+◌, ◌*◌, ◌≤◌, ◌<◌}
use native.Mathlib.Nat.{mul-le-mul_left}
use native.Mathlib.Decide.{ℕ_discrete}
use native.Mathlib.Omega.{arith}
use lib.ListN.{length, replicate, length-append}
use borrow.Author.Tests.{eq-eqb, lt-ltb, le-ltb}
use Rattle.exchange.specs.Forms.{occurs, Order}
use Rattle.exchange.specs.Chosen.{at, together}
use Rattle.exchange.specs.Choice.{sum_over, End, best, placed}
use Rattle.exchange.proofs.Choice.Sums.{num, num_most, bool_cases, same_cases, occurs_append, sum_together, sum_over_lem, below_length}
use Rattle.exchange.proofs.Choice.Sums.{tally_length, tally_full}
use Rattle.exchange.proofs.Choice.Room.{Allowed, allowed_append, allowed_block, greedy}
use Rattle.exchange.proofs.Choice.Best.{Fits, None, Found, best_is}

pub together_append : (units l m : List ℕ) → together units (l ++ m) ≡ together units l ++ together units m
unfolding together
together_append units [] m = refl
together_append units (i ∷ l) m = rw (together_append units l m, append_assoc)

together_one : (units l : List ℕ) (i : ℕ) → together units (l ++ (i ∷ [])) ≡ together units l ++ replicate (at units i) i
unfolding together
together_one units l i = together_append units l (i ∷ []) ∙ ap (λ (m : List ℕ). together units l ++ m) (append-nil (replicate (at units i) i))

-- a unit of an end's item gives back at least what it needs, one of another item at most that
pub record Parts (e : End) : Type 0 where
  pub gains : (x : ℕ) → e.mine x ≡ true → e.needs x ≤ e.gives x
  pub rest : (x : ℕ) → e.mine x ≡ false → e.gives x ≤ e.needs x

module _ (e : End) where
  -- what holds of the items placed so far: they are the end's, none stands twice, and their units are allowed
  pub record Kept (done : List ℕ) : Type 0 where
    pub once : (x : ℕ) → occurs x done ≤ num (e.mine x)
    pub below : (x : ℕ) → 0 < occurs x done → x < length e.units
    pub allowed : Allowed e.needs e.gives e.added e.taken (together e.units done)

  -- an item of this end that is not yet placed
  pub record Open (done : List ℕ) (x : ℕ) : Type 0 where
    pub mine : e.mine x ≡ true
    pub below : x < length e.units
    pub new : occurs x done ≡ 0

  -- one choice: nothing fits and nothing is placed, or an item that fits is
  pub grows : (k : ℕ) → (None e (placed e k) (length e.units) (best e (placed e k) (length e.units)) × (placed e (suc k) ≡ placed e k))
      ⊎ ((i : ℕ) × Found e (placed e k) (length e.units) i × (placed e (suc k) ≡ placed e k ++ (i ∷ [])))
  unfolding placed
  grows k =
      let n = length e.units in
      let i = best e (placed e k) n in
      ⊎_elim
      (λ o. inl (o, rw (le-ltb i n (omega (arith, o.none)))))
      (λ f. inr (i, f, rw (lt-ltb i n f.below)))
      (best_is e (placed e k) n (omega arith))

  module _ (p : Parts e) where
    kept_one : (done : List ℕ) (i : ℕ) → i < length e.units → Fits e done i → Kept done → Kept (done ++ (i ∷ []))
    unfolding occurs
    kept_one done i h f v =
        record {
          once = λ x.
              ⊎_elim
              (λ s. rw (← s.0) (omega (arith, occurs_append i done (i ∷ []), ap num (eq-eqb i i refl), f.new, ap num f.mine)))
              (λ s. omega (arith, occurs_append x done (i ∷ []), s.1, v.once x))
              (same_cases i x);
          below = λ x q.
              ⊎_elim
              (λ s. omega (arith, s.0))
              (λ s. v.below x (omega (arith, occurs_append x done (i ∷ []), s.1)))
              (same_cases i x);
          allowed =
              rw together_one
              (allowed_append e.needs e.gives (together e.units done) (replicate (at e.units i) i) e.added e.taken v.allowed
              (allowed_block e.needs e.gives i (at e.units i) _ _ (p.gains i f.mine)
              (omega (arith, f.room, sum_together e.units e.needs done, sum_together e.units e.gives done))));
        }

    pub kept : (k : ℕ) → Kept (placed e k)
    unfolding occurs placed together
    kept zero = record { once = λ x. omega arith; below = λ x h. absurd (omega arith); allowed = tt }
    kept (suc k) =
        ⊎_elim
        (λ s. rw s.1 (kept k))
        (λ s. rw s.2 (kept_one (placed e k) s.0 s.1.below s.1.fit (kept k)))
        (grows k)

    -- if an order of all units is allowed from this end on, every item of this end is placed
    module _
        (some : (x : ℕ) → x < length e.units → 0 < at e.units x)
        (σ : List ℕ)
        (o : Order e.units σ)
        (a : Allowed e.needs e.gives e.added e.taken σ)
      where
        class : (done : List ℕ) → Kept done → (x : ℕ) → 0 < occurs x σ
            → Open done x ⊎ (((occurs x done ≡ 1) × (e.needs x ≤ e.gives x)) ⊎ ((occurs x done ≡ 0) × (e.gives x ≤ e.needs x)))
        class done v x h =
            ⊎_elim
            (λ m.
            dite
            (ℕ_discrete (occurs x done) 0)
            (λ z. inl (record { mine = m; below = below_length e.units x (omega (arith, o x)); new = z }))
            (λ (z : occurs x done ≡ 0 → ⊥). inr (inl (omega (arith, v.once x, ap num m), p.gains x m))))
            (λ m. inr (inr (omega (arith, v.once x, ap num m), p.rest x m)))
            (bool_cases (e.mine x))

        gives : (done : List ℕ) → Kept done → (x : ℕ) → occurs x done * e.needs x ≤ occurs x done * e.gives x
        gives done v x =
            ⊎_elim
            (λ m. mul-le-mul_left (occurs x done) (p.gains x m))
            (λ (m : e.mine x ≡ false). let z : occurs x done ≡ 0 = omega (arith, v.once x, ap num m) in rw z (omega arith))
            (bool_cases (e.mine x))

        -- an open item means that one fits
        one_fits : (done : List ℕ) → Kept done → (x : ℕ) → Open done x → (y : ℕ) × Fits e done y × (y < length e.units)
        one_fits done v x h =
            let needed = sum_over e.units e.needs done in
            let given = sum_over e.units e.gives done in
            let g =
            greedy e.needs e.gives (λ x. occurs x done) (Open done) (gives done v) σ (class done v) e.added e.taken
            (e.added + given) (e.taken + needed)
            (omega (arith, sum_over_lem e.units e.gives σ o done, sum_over_lem e.units e.needs σ o done))
            a x h (omega (arith, o x, some x h.below)) in
            (g.0, record { mine = g.1.mine; new = g.1.new; room = g.2 }, g.1.below)

        -- each choice places one more, until no item is open
        goes_on : (k : ℕ) → (length (placed e k) ≡ k) ⊎ ((x : ℕ) → Open (placed e k) x → ⊥)
        unfolding placed
        goes_on zero = inl refl
        goes_on (suc k) =
            ⊎_elim
            (λ s. inr (rw s.1 (λ x h. let f = one_fits (placed e k) (kept k) x h in s.0.left f.0 f.2 f.1)))
            (λ s.
            ⊎_elim
            (λ l. inl (rw s.2 (omega (arith, length-append (placed e k) (s.0 ∷ []), l))))
            (λ l. absurd (l s.0 (record { mine = s.1.fit.mine; below = s.1.below; new = s.1.fit.new })))
            (goes_on k))
            (grows k)

        pub all_placed : (x : ℕ) → Open (placed e (length e.units)) x → ⊥
        all_placed x h =
            let n = length e.units in
            let v = kept n in
            let once : (x : ℕ) → occurs x (placed e n) ≤ 1 = λ x. omega (arith, v.once x, num_most (e.mine x)) in
            ⊎_elim
            (λ l. omega (arith, tally_full (placed e n) once n (tally_length n (placed e n) v.below ∙ l) x h.below, h.new))
            (λ l. l x h)
            (goes_on n)
