-- A first step, and the rule's steps after it, in both areas. Assumes nothing.
use mathlib.Core.Path.{◌≡◌, refl, sym, ap, ◌∙◌}
use mathlib.Core.List.{List, [], map, map-append, ◌++◌}
use Prim.Native.Nat.{ℕ, ◌+◌, ◌≤◌, ◌<◌}
use native.Mathlib.Omega.{arith}
use lib.Dec.{leb}
use borrow.Author.Tests.{le-leb, lt-leb}
use lib.ListN.{length, take, drop, length-append, length-map}
use lib.Seq.{take_at, drop-append-add, drop-drop}
use Rattle.area.specs.Entries.{entries, Stored, Cleared}
use Rattle.exchange.specs.Arrival.{Arrives}
use Rattle.exchange.specs.Deal.{Deal, State, start}
use Rattle.exchange.specs.Work.{Rising, work_of}
use Rattle.exchange.specs.Possible.{Possible}
use Rattle.exchange.specs.Rule.{ruled}
use Rattle.exchange.specs.Objectives.{count, moves, delivery_only, payment_only, opening, Opens, smaller, PlanFor}
use Rattle.exchange.specs.declared.Objective.{Objective}
use Rattle.exchange.proofs.Bridge.{start_covered}
use Rattle.exchange.proofs.GivenOrder.Opening.{opening_by, opening_more, opening_length, opening_start}
use Rattle.exchange.proofs.GivenOrder.RuleLaws.{ruled_length, arrives_first}
use Rattle.exchange.proofs.GivenOrder.{on_line, to_work, ruled_short}
use Rattle.exchange.proofs.GivenOrder.Starts.{Single, start_step}
use Rattle.exchange.proofs.Objectives.{delivery_first, payment_first, delivery_start_moves, payment_start_moves, opens_one}
use Rattle.line.specs.Promise.{Success}
use Rattle.line.specs.Code.{Holds, Written, Begins, Begun, Counts}
use Rattle.line.proofs.RunLaws.{holds_none, holds_next, filled_by}

-- ---- the first step, unless it is empty

module _ (f : State) (n : ℕ) (e : n ≡ length (opening f [])) (places sums : List ℕ) where
  pub begun_none : n ≡ 0 → Begun f n places sums places sums
  begun_none z =
      record {
        count_is = e;
        written =
            opening_by (λ xs. n ≡ length xs → Written 0 xs places sums places sums) f []
            (λ _ _. record { places_hold = holds_none 2 0 places; sums_hold = holds_none 4 0 sums })
            (λ _ (q : n ≡ 1). absurd (omega arith)) e;
      }

  pub begun_one : (n ≡ 0 → ⊥) → (places' sums' : List ℕ) → Stored 2 places places' 0 f.place → Stored 4 sums sums' 0 f.paid
      → 0 < length (entries 2 places) → 0 < length (entries 4 sums) → Begun f n places sums places' sums'
  begun_one z places' sums' sp ss hp hs =
      record {
        count_is = e;
        written =
            opening_by (λ xs. n ≡ length xs → Written 0 xs places sums places' sums') f [] (λ _ (q : n ≡ 0). absurd (z q))
            (λ _ _.
            record {
              places_hold = holds_next 2 [] places places places' 0 f.place (holds_none 2 0 places) sp refl hp;
              sums_hold = holds_next 4 [] sums sums sums' 0 f.paid (holds_none 4 0 sums) ss refl hs;
            })
            e;
      }

-- ---- what is written after what was written

holds_join : (w : ℕ) (xs ys before mid after : List ℕ) (n : ℕ) → length xs ≡ n → Holds w xs before mid
    → Holds w (take n (entries w mid) ++ ys) mid after → Holds w (xs ++ ys) before after
holds_join w xs ys before mid after n l h g =
    let old = entries w before in
    let front : take n (entries w mid) ≡ xs = rw h.entries_are (take_at xs (drop (length xs) old) n l) in
    let rest : drop (length (xs ++ ys)) (entries w mid) ≡ drop (length (xs ++ ys)) old =
    rw (h.entries_are, length-append xs ys) (drop_join xs old (length ys)) in
    record {
      entries_are = (rw front at g.entries_are) ∙ ap (λ (zs : List ℕ). (xs ++ ys) ++ zs) rest;
      remainder_kept = g.remainder_kept ∙ h.remainder_kept;
      length_kept = g.length_kept ∙ h.length_kept;
    }
  where
    drop_join : (xs old : List ℕ) (m : ℕ) → drop (length xs + m) (xs ++ drop (length xs) old) ≡ drop (length xs + m) old
    drop_join xs old m = drop-append-add xs (drop (length xs) old) m ∙ drop-drop m (length xs) old

module _ (d : Deal) (f : State) (k n : ℕ) (places sums mid mid' places' sums' : List ℕ) (b : Begun f n places sums mid mid')
    (w : Written n (ruled d f k) mid mid' places' sums') where
  whole_is : opening f [] ++ ruled d f k ≡ opening f (ruled d f k)
  whole_is = sym (opening_more f [] (ruled d f k))

  -- the first step and the rule's steps after it: the whole plan
  pub plan_written : Written 0 (opening f (ruled d f k)) places sums places' sums'
  plan_written =
      let long : (g : State → ℕ) → length (map g (opening f [])) ≡ n = λ g. length-map (opening f []) g ∙ sym b.count_is in
      rw (← whole_is)
      (record {
        places_hold =
            rw (map-append (λ (s : State). s.place) (opening f []))
            (holds_join 2 _ _ places mid places' n (long _) b.written.places_hold w.places_hold);
        sums_hold =
            rw (map-append (λ (s : State). s.paid) (opening f []))
            (holds_join 4 _ _ sums mid' sums' n (long _) b.written.sums_hold w.sums_hold);
      })

plan_length : (d : Deal) (f : State) (k n : ℕ) → n ≡ length (opening f []) → n + k ≡ length (opening f (ruled d f k))
plan_length d f k n e = rw (opening_more f [] (ruled d f k), length-append (opening f []) (ruled d f k), ruled_length d f k) (omega arith)

-- n steps for the first one, and k by the rule
pub counted : (d : Deal) (f : State) (k n : ℕ) → Arrives d f k → n ≡ length (opening f []) → Counts d f (n + k)
counted d f k n a e =
    record {
      steps = opening f (ruled d f k);
      opens = record { ruled_steps = k; arrives = a; steps_are = refl };
      count_is = plan_length d f k n e;
    }

-- the plan written, and the entries after it cleared
pub success : (aim : Objective) (d : Deal) (f : State) (k n : ℕ) (places sums mid mid' far far' places' sums' : List ℕ) → Possible d
    → ((xs : List State) → Opens d f xs → PlanFor aim d xs) → Arrives d f k → Begun f n places sums mid mid'
    → Written n (ruled d f k) mid mid' far far' → Cleared 2 far places' (n + k) → Cleared 4 far' sums' (n + k)
    → Success aim d (n + k) places sums places' sums'
success aim d f k n places sums mid mid' far far' places' sums' p suits a b w cp cs =
    let e = plan_length d f k n b.count_is in
    let whole = plan_written d f k n places sums mid mid' far far' b w in
    let filled = filled_by _ places sums far far' places' sums' (n + k) e whole cp cs in
    record {
      possible = p;
      steps = opening f (ruled d f k);
      plan_for = suits _ (record { ruled_steps = k; arrives = a; steps_are = refl });
      count_is = e;
      places_are = filled.0;
      sums_are = filled.1;
    }

-- ---- the first steps

module _ (d : Deal) (r : Rising d) (counts : (a b : ℕ) → d.holds a b ≡ leb a b) (p : Possible d) where
  single_begins : (f : State) → Single (work_of d) f → Begins d f (length (opening f []))
  single_begins f s =
      record {
        step = s.step;
        short = λ n a. let l = opening_length f [] s.one in omega (arith, s.short (to_work d r counts p) n (arrives_first d f n a));
      }

  pub start_begins : Begins d start (length (opening start []))
  start_begins =
      rw (opening_start [])
      (record {
        step = start_step (on_line d r counts) (start_covered d r p.start_safe);
        short = λ n a. omega (arith, ruled_short d r counts p.start_safe n a);
      })

  pub delivery_begins : Begins d (delivery_only d) (length (opening (delivery_only d) []))
  delivery_begins = single_begins (delivery_only d) (delivery_first d r counts p)

  pub payment_begins : Begins d (payment_only d) (length (opening (payment_only d) []))
  payment_begins = single_begins (payment_only d) (payment_first d r counts p)

  -- the one with fewer steps, the payment start on a tie, is the one with fewer moves
  module _ (m n : ℕ) (v : Counts d (payment_only d) m) (u : Counts d (delivery_only d) n) where
    sizes : (count moves start v.steps ≡ m) × (count moves start u.steps ≡ n)
    sizes = (
      payment_start_moves d r counts p v.steps v.opens ∙ sym v.count_is,
      delivery_start_moves d r counts p u.steps u.opens ∙ sym u.count_is,
    )

    pub takes_payment : m ≤ n → (xs : List State) → Opens d (payment_only d) xs → PlanFor Objective.Moves d xs
    unfolding smaller
    takes_payment h xs o =
        record {
          paying = v.steps;
          delivering = u.steps;
          payment_start = v.opens;
          delivery_start = u.opens;
          steps_are = rw (sizes.0, sizes.1, le-leb m n h) (opens_one d _ xs v.steps o v.opens);
        }

    pub takes_delivery : n < m → (xs : List State) → Opens d (delivery_only d) xs → PlanFor Objective.Moves d xs
    unfolding smaller
    takes_delivery h xs o =
        record {
          paying = v.steps;
          delivering = u.steps;
          payment_start = v.opens;
          delivery_start = u.opens;
          steps_are = rw (sizes.0, sizes.1, lt-leb m n h) (opens_one d _ xs u.steps o u.opens);
        }
