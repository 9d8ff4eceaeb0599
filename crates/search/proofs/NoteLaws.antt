-- The loop that notes the rows reached in a step. Assumes nothing.
use mathlib.Core.Path.{◌≡◌, sym, ap, ◌∙◌}
use mathlib.Core.Logic.{◌⊎◌, ⊎_elim, inl, inr}
use mathlib.Core.List.{List}
use Prim.Native.Nat.{ℕ, suc, ◌+◌, ◌≤◌, ◌<◌}
use native.Mathlib.Decide.{ℕ_discrete, dec_lt}
use native.Mathlib.Numerals.{add-one}
use native.Mathlib.Omega.{arith}
use lib.ListN.{get_or, set, length-set}
use lib.Seq.{get_or-set_same, get_or-set_other}
use Rattle.search.specs.declared.notes.Notes.{Notes}
use Rattle.search.specs.Layers.{never, Among, Listing, Same, New, Noting, Noted}
use Rattle.search.proofs.ListLaws.{below_more, below_room}

-- a list of one entry more
among_more : {list : List ℕ} {i a : ℕ} → Among list i a → Among list (i + 1) a
among_more x = record { index = x.index; below = omega (arith, x.below); entry = x.entry }

among_not : {list : List ℕ} {i a : ℕ} → (Among list i a → ⊥) → (get_or list i 0 ≡ a → ⊥) → Among list (i + 1) a → ⊥
among_not {list} {i} {a} none not x = go (ℕ_discrete x.index i)
  where
    go : Dec (x.index ≡ i) → ⊥
    go (yes q) = not (rw (← q) x.entry)
    go (no z) = none (record { index = x.index; below = omega (arith, x.below); entry = x.entry })

module _ {next list : List ℕ} {step end i m : ℕ} {r now : Notes} (h : Noting next list step end r now i m) (early : step < never)
    (a : ℕ) (e : a ≡ get_or list i 0) where
  -- the row is reached already
  pub noting_passed : get_or now.reached a 0 < never → Noting next list step end r now (i + 1) m
  noting_passed l =
      record {
        grown = h.grown;
        waited = λ b w.
            ⊎_elim (λ x. inl (x.0, among_not x.1 (λ q. omega (arith, x.0.step_same, ap (λ (z : ℕ). get_or now.reached z 0) (e ∙ q), l, w))))
            (λ x. inr (x.0, among_more x.1)) (h.waited b w);
        found_new = λ k p q. (among_more (h.found_new k p q).0, (h.found_new k p q).1);
      }

  -- it is reached now
  module _ (few : a < 128) (l : never ≤ get_or now.reached a 0) where
    waits : never ≤ get_or r.reached a 0
    waits = go (dec_lt (get_or r.reached a 0) never)
      where
        go : Dec (get_or r.reached a 0 < never) → never ≤ get_or r.reached a 0
        go (yes m) = absurd (omega (arith, (h.grown.had a m).step_same))
        go (no m) = omega arith

    pub noting_room : m < 128
    noting_room = omega (arith, below_room never now.reached a step (omega (arith, h.grown.kept.reached_long)) early l 128 few, h.grown.kept.counted)

    step_there : get_or (set now.reached a step) a 0 ≡ step
    step_there = get_or-set_same now.reached a step 0 (omega (arith, h.grown.kept.reached_long))

    found_there : get_or (set now.found m a) m 0 ≡ a
    found_there = get_or-set_same now.found m a 0 (omega (arith, noting_room, h.grown.kept.found_long))

    found_other : (k : ℕ) → k < m → get_or (set now.found m a) k 0 ≡ get_or now.found k 0
    found_other k q = get_or-set_other now.found m k a 0 (λ z. omega arith)

    module _ (v : ℕ) (f : v ≡ get_or next a 0) where
      abbrev after : Notes
      after = record { reached = set now.reached a step; firsts = set now.firsts a v; found = set now.found m a }

      step_other : (b : ℕ) → (b ≡ a → ⊥) → get_or (set now.reached a step) b 0 ≡ get_or now.reached b 0
      step_other b n = get_or-set_other now.reached a b step 0 n

      same_other : (b : ℕ) → (b ≡ a → ⊥) → Same r now b → Same r after b
      same_other b n x =
          record { step_same = step_other b n ∙ x.step_same; first_same = get_or-set_other now.firsts a b v 0 n ∙ x.first_same }

      own : New next step end after (m + 1) a
      own =
          record {
            step_is = step_there;
            first_is = get_or-set_same now.firsts a v 0 (omega (arith, h.grown.kept.firsts_long)) ∙ f;
            index = m;
            begin = h.grown.more;
            below = omega arith;
            entry = found_there;
          }

      new_other : (b : ℕ) → (b ≡ a → ⊥) → New next step end now m b → New next step end after (m + 1) b
      new_other b n x =
          record {
            step_is = step_other b n ∙ x.step_is;
            first_is = get_or-set_other now.firsts a b v 0 n ∙ x.first_is;
            index = x.index;
            begin = x.begin;
            below = omega (arith, x.below);
            entry = found_other x.index x.below ∙ x.entry;
          }

      pub noting_next : Noting next list step end r after (i + 1) (m + 1)
      noting_next =
          record {
            grown =
                record {
                  kept =
                      record {
                        reached_long = length-set now.reached a step ∙ h.grown.kept.reached_long;
                        firsts_long = length-set now.firsts a v ∙ h.grown.kept.firsts_long;
                        found_long = length-set now.found m a ∙ h.grown.kept.found_long;
                        counted =
                            rw add-one
                            (ap suc h.grown.kept.counted ∙ sym (below_more never now.reached a step (omega (arith, h.grown.kept.reached_long)) early l 128 few));
                      };
                  more = omega (arith, h.grown.more);
                  had = λ b p. same_other b (λ q. omega (arith, waits, ap (λ (z : ℕ). get_or r.reached z 0) q, p)) (h.grown.had b p);
                  found_kept = λ k p. found_other k (omega (arith, h.grown.more)) ∙ h.grown.found_kept k p;
                };
            waited = λ b p. row b p (ℕ_discrete b a);
            found_new = λ k p q. at k p q (ℕ_discrete k m);
          }
        where
          here : Among list (i + 1) a
          here = record { index = i; below = omega arith; entry = sym e }

          row : (b : ℕ) → never ≤ get_or r.reached b 0 → Dec (b ≡ a)
              → (Same r after b × (Among list (i + 1) b → ⊥)) ⊎ (New next step end after (m + 1) b × Among list (i + 1) b)
          row b p (yes q) = inr (rw q own, rw q here)
          row b p (no n) =
              ⊎_elim (λ x. inl (same_other b n x.0, among_not x.1 (λ q. n (sym q ∙ sym e))))
              (λ x. inr (new_other b n x.0, among_more x.1)) (h.waited b p)

          at : (k : ℕ) → end ≤ k → k < m + 1 → Dec (k ≡ m)
              → Among list (i + 1) (get_or (set now.found m a) k 0) × (get_or (set now.reached a step) (get_or (set now.found m a) k 0) 0 ≡ step)
          at k p q (yes z) = rw (z, found_there) (here, step_there)
          at k p q (no z) =
              let x = h.found_new k p (omega arith) in
              rw (found_other k (omega arith)) (among_more x.0, go (ℕ_discrete (get_or now.found k 0) a) x.1)
            where
              go : Dec (get_or now.found k 0 ≡ a) → get_or now.reached (get_or now.found k 0) 0 ≡ step → get_or (set now.reached a step) (get_or now.found k 0) 0 ≡ step
              go (yes y) x = rw (y, step_there)
              go (no y) x = step_other (get_or now.found k 0) y ∙ x

-- the list has the rows with an offer
pub noted : {next list : List ℕ} {step end n m rows : ℕ} {r r' : Notes} → Listing next list n rows → Noting next list step end r r' n m
    → Noted next step end r r' m rows
noted l h =
    record {
      grown = h.grown;
      new = λ a s w o. ⊎_elim (λ x. absurd (x.1 (l.lists a s o))) (λ x. x.0) (h.waited a w);
      waits = λ a s w o.
          ⊎_elim (λ x. x.0) (λ x. absurd (omega (arith, rw x.1.entry at (l.taken x.1.index x.1.below)))) (h.waited a w);
      found_new = λ i p q.
          let x = h.found_new i p q in
          (rw x.0.entry at (l.in_rows x.0.index x.0.below), x.1);
    }
