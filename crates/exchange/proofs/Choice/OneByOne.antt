-- What an end places is what its choice finds again and again, and nothing else is. Used for both ends. Assumes nothing.
use mathlib.Core.Path.{◌≡◌, refl, sym, ap, ◌∙◌, subst}
use mathlib.Core.Logic.{◌↔◌, inl, inr, ⊎_elim, dite}
use mathlib.Core.List.{List, [], ◌∷◌, ◌++◌, append-nil, append_assoc}
use Prim.Native.Nat.{ℕ, zero, suc, ◌+◌, ◌-◌, ◌≤◌, ◌<◌}
use native.Mathlib.Nat.{add-suc, add-zero}
use native.Mathlib.Decide.{dec_lt}
use native.Mathlib.Omega.{arith}
use lib.ListN.{length, length-append}
use borrow.Author.Tests.{lt-ltb, le-ltb}
use Rattle.exchange.specs.Forms.{occurs}
use Rattle.exchange.specs.Choice.{End, best, placed}
use Rattle.exchange.specs.Chosen.{Next, AgainAndAgain}
use Rattle.exchange.proofs.Choice.Sums.{same_cases}
use Rattle.exchange.proofs.Choice.Best.{Fits, None, Found, best_is}
use Rattle.exchange.proofs.Choice.End.{Parts, grows}

-- ---- of any relation

module _ (R : List ℕ → ℕ → Type 0) where
  -- one more at the end
  pub again_more : (done l : List ℕ) (j : ℕ) → AgainAndAgain R done l → R (done ++ l) j → AgainAndAgain R done (l ++ (j ∷ []))
  again_more done [] j a r = (rw append-nil at r, tt)
  again_more done (i ∷ l) j a r =
      let e : done ++ (i ∷ l) ≡ (done ++ (i ∷ [])) ++ l = sym (append_assoc done (i ∷ []) l) in
      (a.0, again_more (done ++ (i ∷ [])) l j a.1 (rw e at r))

  -- each item was the next at some time
  pub again_some : (done l : List ℕ) → AgainAndAgain R done l → (x : ℕ) → 0 < occurs x l → (before : List ℕ) × R before x
  unfolding occurs
  again_some done [] a x h = absurd (omega arith)
  again_some done (i ∷ l) a x h =
      ⊎_elim
      (λ s. (done, subst (R done) s.0 a.0))
      (λ s. again_some (done ++ (i ∷ [])) l a.1 x (omega (arith, s.1)))
      (same_cases i x)

  -- another relation that follows wherever the list goes on so
  pub again_so : (S : List ℕ → ℕ → Type 0) (all : List ℕ)
      → ((done rest : List ℕ) (j : ℕ) → done ++ (j ∷ rest) ≡ all → R done j → S done j)
      → (done l : List ℕ) → done ++ l ≡ all → AgainAndAgain R done l → AgainAndAgain S done l
  again_so S all so done [] e a = tt
  again_so S all so done (j ∷ l) e a =
      (so done l j e a.0, again_so S all so (done ++ (j ∷ [])) l (append_assoc done (j ∷ []) l ∙ e) a.1)

-- ---- of an end

module _ (e : End) where
  -- the number of items
  abbrev n : ℕ
  n = length e.units

  -- only one item is found
  found_same : (done : List ℕ) (i j : ℕ) → Found e done n i → Found e done n j → i ≡ j
  found_same done i j f g =
      dite
      (dec_lt i j)
      (λ h. absurd (omega (arith, g.lowest i h f.fit, f.greatest j g.below g.fit)))
      (λ (h : i < j → ⊥).
      dite
      (dec_lt j i)
      (λ k. absurd (omega (arith, f.lowest j k g.fit, g.greatest i f.below f.fit)))
      (λ (k : j < i → ⊥). omega arith))

  best_found : (done : List ℕ) (j : ℕ) → Found e done n j → best e done n ≡ j
  best_found done j f =
      ⊎_elim
      (λ o. absurd (o.left j f.below f.fit))
      (λ g. found_same done (best e done n) j g f)
      (best_is e done n (omega arith))

  -- what is placed is found again and again
  pub placed_found : (k : ℕ) → AgainAndAgain (λ done. Found e done n) [] (placed e k)
  unfolding placed
  placed_found zero = tt
  placed_found (suc k) =
      ⊎_elim
      (λ s. rw s.1 (placed_found k))
      (λ s. rw s.2 (again_more (λ done. Found e done n) [] (placed e k) s.0 (placed_found k) s.1))
      (grows e k)

  -- what is found again and again is placed
  found_placed : (done l : List ℕ) → placed e (length done) ≡ done → AgainAndAgain (λ d. Found e d n) done l
      → placed e (length (done ++ l)) ≡ done ++ l
  unfolding placed
  found_placed done [] q a = rw append-nil q
  found_placed done (j ∷ l) q a = rw (← append_assoc done (j ∷ []) l) (found_placed (done ++ (j ∷ [])) l one a.1)
    where
      one : placed e (length (done ++ (j ∷ []))) ≡ done ++ (j ∷ [])
      one =
          let s : length (done ++ (j ∷ [])) ≡ suc (length done) = omega (arith, length-append done (j ∷ [])) in
          rw (s, q, best_found done j a.0, lt-ltb j n a.0.below)

  -- where none fits, no more is placed
  stays : (k m : ℕ) → ((x : ℕ) → x < n → Fits e (placed e k) x → ⊥) → placed e (k + m) ≡ placed e k
  unfolding placed
  stays k zero none = rw add-zero
  stays k (suc m) none =
      let q = stays k m none in
      let b : n ≤ best e (placed e k) n =
      ⊎_elim
      (λ (o : None e (placed e k) n (best e (placed e k) n)). omega (arith, o.none))
      (λ f. absurd (none _ f.below f.fit))
      (best_is e (placed e k) n (omega arith)) in
      rw (add-suc, q, le-ltb _ _ b)

  pub placed_is : (l : List ℕ) → length l ≤ n → AgainAndAgain (λ done. Found e done n) [] l → ((x : ℕ) → x < n → Fits e l x → ⊥)
      → placed e n ≡ l
  unfolding placed
  placed_is l h a none =
      let q : placed e (length l) ≡ l = found_placed [] l refl a in
      let s : length l + (n - length l) ≡ n = omega arith in
      ap (placed e) (sym s) ∙ stays (length l) (n - length l) (rw q none) ∙ q

  -- ---- the next item, as the paper says it

  module _ (p : Parts e) (done : List ℕ) (May : ℕ → Type 0)
      (may : (x : ℕ) → May x ↔ ((x < n) × Fits e done x)) where
    -- what an item gives less what it needs
    abbrev surplus : ℕ → ℕ
    surplus x = e.gives x - e.needs x

    pub found_next : (j : ℕ) → Found e done n j → Next May surplus j
    found_next j f =
        record {
          may = (may j).1 (f.below, f.fit);
          greatest = λ i m.
              let (b, t) = (may i).0 m in
              let gi : e.needs i ≤ e.gives i = p.gains i t.mine in
              let gj : e.needs j ≤ e.gives j = p.gains j f.fit.mine in
              dite
              (dec_lt i j)
              (λ (h : i < j). inl (omega (arith, f.lowest i h t)))
              (λ (h : i < j → ⊥).
              dite
              (dec_lt (surplus i) (surplus j))
              (λ (k : surplus i < surplus j). inl k)
              (λ (k : surplus i < surplus j → ⊥). inr (omega (arith, f.greatest i b t), omega arith)));
        }

    pub next_found : (j : ℕ) → Next May surplus j → Found e done n j
    next_found j x =
        let (b, t) = (may j).0 x.may in
        let gj : e.needs j ≤ e.gives j = p.gains j t.mine in
        record {
          below = b;
          fit = t;
          greatest = λ i l f.
              let gi : e.needs i ≤ e.gives i = p.gains i f.mine in
              ⊎_elim
              (λ (h : surplus i < surplus j). omega arith)
              (λ (h : (surplus i ≡ surplus j) × (j ≤ i)). omega arith)
              (x.greatest i ((may i).1 (l, f)));
          lowest = λ i l f.
              let gi : e.needs i ≤ e.gives i = p.gains i f.mine in
              ⊎_elim
              (λ (h : surplus i < surplus j). omega arith)
              (λ (h : (surplus i ≡ surplus j) × (j ≤ i)). absurd (omega (arith, h.1)))
              (x.greatest i ((may i).1 (omega arith, f)));
        }
