-- What the choice of the next item finds: the item that fits, gives most less what it needs, and has the lowest number of these.
-- Assumes nothing.
use mathlib.Core.Path.{◌≡◌, refl, sym, subst, ◌∙◌}
use mathlib.Core.Bool.{Bool, true, false, true≢false, cond, ◌&&◌, ◌||◌, and-eq-true_iff}
use mathlib.Core.Logic.{◌↔◌, ◌⊎◌, inl, inr, dite}
use mathlib.Core.List.{List}
use Prim.Native.Nat.{ℕ, zero, suc, ◌+◌, ◌≤◌, ◌<◌}
use native.Mathlib.Decide.{ℕ_discrete}
use native.Mathlib.Omega.{arith}
use lib.Dec.{ltb, eqb}
use lib.ListN.{length}
use borrow.Author.Tests.{eqb-true, eqb-false, eq-eqb, ltb-true, ltb-false, leb-true, le-leb}
use Rattle.exchange.specs.Forms.{occurs}
use Rattle.exchange.specs.Choice.{End, sum_over, fits, better, best}

upto : (P : ℕ → Type 0) (k : ℕ) → ((x : ℕ) → x < k → P x) → P k → (x : ℕ) → x < suc k → P x
upto P k f p x h = dite (ℕ_discrete x k) (λ q. subst P (sym q) p) (λ (q : x ≡ k → ⊥). f x (omega arith))

module _ (e : End) (done : List ℕ) where
  -- item j may be next
  pub record Fits (j : ℕ) : Type 0 where
    pub mine : e.mine j ≡ true
    pub new : occurs j done ≡ 0
    pub room : e.taken + sum_over e.units e.needs done + e.needs j ≤ e.added + sum_over e.units e.gives done

  pub fits↔ : (j : ℕ) → (fits e done j ≡ true) ↔ Fits j
  unfolding fits
  fits↔ j = (
    λ h.
        let a = (and-eq-true_iff _ _).0 h in
        let b = (and-eq-true_iff (e.mine j) _).0 a.0 in
        record { mine = b.0; new = eqb-true _ _ b.1; room = leb-true _ _ a.1 },
    λ f. rw (f.mine, eq-eqb _ _ f.new) (le-leb _ _ f.room),
  )

  -- item x gives at most as much as item m, less what each needs
  abbrev pub AtMost : ℕ → ℕ → Type 0
  AtMost x m = e.gives x + e.needs m ≤ e.gives m + e.needs x

  -- item x gives less than item m, less what each needs
  abbrev pub Less : ℕ → ℕ → Type 0
  Less x m = e.gives x + e.needs m < e.gives m + e.needs x

  -- none of the items below k fits
  pub record None (k m : ℕ) : Type 0 where
    pub none : m ≡ length e.units
    pub left : (x : ℕ) → x < k → Fits x → ⊥

  -- m is the item to take of those below k
  pub record Found (k m : ℕ) : Type 0 where
    pub below : m < k
    pub fit : Fits m
    pub greatest : (x : ℕ) → x < k → Fits x → AtMost x m
    pub lowest : (x : ℕ) → x < m → Fits x → Less x m

  misfit : {k : ℕ} → fits e done k ≡ false → Fits k → ⊥
  misfit {k} n f = true≢false (sym ((fits↔ k).1 f) ∙ n)

  -- what the test of two items says
  more : (m k : ℕ) → better e m k ≡ true → (m ≡ length e.units → ⊥) → Less m k
  unfolding better
  more m k h n = ltb-true _ _ (go (eqb m (length e.units)) refl h)
    where
      go : (t : Bool) → eqb m (length e.units) ≡ t → (t || ltb (e.gives m + e.needs k) (e.gives k + e.needs m)) ≡ true
          → ltb (e.gives m + e.needs k) (e.gives k + e.needs m) ≡ true
      go true q h = absurd (n (eqb-true _ _ q))
      go false q h = h

  no_more : (m k : ℕ) → better e m k ≡ false → (m ≡ length e.units → ⊥) × AtMost k m
  unfolding better
  no_more m k h = go (eqb m (length e.units)) refl h
    where
      go : (t : Bool) → eqb m (length e.units) ≡ t → (t || ltb (e.gives m + e.needs k) (e.gives k + e.needs m)) ≡ false
          → (m ≡ length e.units → ⊥) × AtMost k m
      go true q h = absurd (true≢false h)
      go false q h = (eqb-false _ _ q, ltb-false _ _ h)

  -- whether k is to be taken rather than m
  next : (k m : ℕ) → k < length e.units → (f w : Bool) → fits e done k ≡ f → better e m k ≡ w → None k m ⊎ Found k m
      → None (suc k) (cond (f && w) k m) ⊎ Found (suc k) (cond (f && w) k m)
  next k m h true true ff ww (inl o) =
      inr
      (record {
        below = omega arith;
        fit = (fits↔ k).0 ff;
        greatest = upto (λ x. Fits x → AtMost x k) k (λ x p t. absurd (o.left x p t)) (λ t. omega arith);
        lowest = λ x p t. absurd (o.left x p t);
      })
  next k m h true true ff ww (inr o) =
      let l : Less m k = more m k ww (λ q. omega (arith, q, o.below)) in
      inr
      (record {
        below = omega arith;
        fit = (fits↔ k).0 ff;
        greatest = upto (λ x. Fits x → AtMost x k) k (λ x p t. omega (arith, o.greatest x p t)) (λ t. omega arith);
        lowest = λ x p t. omega (arith, o.greatest x p t);
      })
  next k m h true false ff ww (inl o) = absurd ((no_more m k ww).0 o.none)
  next k m h true false ff ww (inr o) =
      let l : AtMost k m = (no_more m k ww).1 in
      inr
      (record {
        below = omega (arith, o.below);
        fit = o.fit;
        greatest = upto (λ x. Fits x → AtMost x m) k o.greatest (λ t. l);
        lowest = o.lowest;
      })
  next k m h false w ff ww (inl o) = inl (record { none = o.none; left = upto (λ x. Fits x → ⊥) k o.left (misfit ff) })
  next k m h false w ff ww (inr o) =
      inr
      (record {
        below = omega (arith, o.below);
        fit = o.fit;
        greatest = upto (λ x. Fits x → AtMost x m) k o.greatest (λ t. absurd (misfit ff t));
        lowest = o.lowest;
      })

  pub best_is : (k : ℕ) → k ≤ length e.units → None k (best e done k) ⊎ Found k (best e done k)
  unfolding best
  best_is zero h = inl (record { none = refl; left = λ x p. absurd (omega arith) })
  best_is (suc k) h = next k (best e done k) h (fits e done k) (better e (best e done k) k) refl refl (best_is k (omega arith))
