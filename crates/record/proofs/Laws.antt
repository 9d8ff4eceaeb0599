-- Laws of fields and answers. Assumes nothing.
use mathlib.Core.Path.{◌≡◌, refl, sym, ap₂, ◌∙◌}
use mathlib.Core.Bool.{Bool, true, false}
use mathlib.Core.List.{List}
use Prim.Native.Nat.{ℕ, suc, ◌+◌, ◌-◌, ◌*◌, ◌≤◌, ◌<◌}
use native.Mathlib.Nat.{suc-mul, mul-le-mul_right}
use native.Mathlib.Omega.{arith}
use lib.Dec.{leb, ltb}
use lib.ListN.{length, set, length-set}
use borrow.Author.Tests.{le-leb, lt-leb, lt-ltb, le-ltb}
use Rattle.area.specs.Entries.{num}
use Rattle.area.proofs.Laws.{column_none, column_fill}
use Rattle.std.proofs.Common.{Result, Ok, Err, Option, Some, None}
use Rattle.std.specs.Option.{ok_or}
use Rattle.std.specs.Result.{IsErrAnd}
use Rattle.std.proofs.lemmas.Result.{err_from_is_err_and}
use Rattle.contract.specs.Res.{Res, refused, ok, bind, test}
use Rattle.contract.specs.Contract.{number_of}
use Rattle.contract.specs.Field.{field, ranged}
use Rattle.contract.specs.declared.Refusal.{Refusal}
use Rattle.contract.specs.declared.Refusal.TheVariants.{Truncated}
use Rattle.record.specs.View.Answer.{Gives}
use Rattle.record.specs.View.Field.{at_of, FieldAs, FieldRead, between, InRange, Ranged}
use Rattle.record.specs.View.Spaced.{Spaced, Filling}

-- what a step that gave a value, or a refusal, says of its answer
pub got : {A B : Type 0} {f : A → B} {said : Res B} {P : A → Type 0} {a : A} → Gives f said P (Ok a) → said ≡ ok (f a)
got g = sym g.meets

pub lost : {A B : Type 0} {f : A → B} {said : Res B} {P : A → Type 0} {e : Refusal} → Gives f said P (Err e) → said ≡ refused (number_of e)
lost g = sym g.meets

-- a refusal that a `?` hands on
pub stopped : {A B : Type 0} {f : A → B} {said : Res B} {P : A → Type 0} {r : Result A Refusal}
    → (e : Refusal) → said ≡ refused (number_of e) → IsErrAnd r (λ d. d ≡ e) → Gives f said P r
stopped {r = r} e g h = let p = err_from_is_err_and r h in rw (p.1, p.2) record { meets = rw g; known = tt }

-- the first of several steps that refuses decides
pub stop : {A B C D : Type 0} {f : A → B} {g : C → D} {said : Res B} {P : A → Type 0} {Q : C → Type 0} {e : Refusal} {r : Result C Refusal} (k : B → Res D)
    → Gives f said P (Err e) → IsErrAnd r (λ d. d ≡ e) → Gives g (bind said k) Q r
stop {e = e} k g h = stopped e (rw (lost g)) h

-- what an `ok_or` that gave a value, or an error, says of the option
pub some_of : {T E : Type 0} (o : Option T) (e : E) {x : T} → Ok x ≡ ok_or o e → o ≡ Some x
some_of None e q = cc
some_of (Some y) e q = cc

pub none_of : {T E : Type 0} (o : Option T) {d e : E} → Err d ≡ ok_or o e → (o ≡ None) × (d ≡ e)
none_of None q = (refl, cc)
none_of (Some y) q = cc

-- a field that lies within the record, and one that does not
pub field_ok : (w : ℕ) (s : List ℕ) (i : ℕ) → i + w ≤ length s → field w s i ≡ ok (record { value = num w s i; next = i + w })
unfolding field
field_ok w s i h = simp (le-leb _ _ h)

pub field_short : (w : ℕ) (s : List ℕ) (i : ℕ) → length s < i + w → field w s i ≡ refused 1
unfolding field
field_short w s i h = simp (lt-leb _ _ h)

-- what is answered of such fields
pub read_field : {T : Type 0} (f : T → ℕ) (w : ℕ) (s : List ℕ) (i : ℕ) {v : T} {next : ℕ} → i + w ≤ length s → f v ≡ num w s i → next ≡ i + w
    → FieldAs f w s i (Ok (v, next))
read_field f w s i h e n = rw n record { meets = rw e (sym (field_ok w s i h)); known = (refl, h) }

pub read_short : {T : Type 0} (f : T → ℕ) (w : ℕ) (s : List ℕ) (i : ℕ) → length s < i + w → FieldAs f w s i (Err Truncated)
read_short f w s i h = record { meets = sym (field_short w s i h); known = tt }

-- ---- a field that was read and held to its range

module _ (w most : ℕ) (s : List ℕ) (i : ℕ) {n next : ℕ} (read : FieldRead w s i (Ok (n, next))) where
  held : ranged w most s i ≡ bind (between n most) (λ v. ok (record { value = v; next = next }))
  unfolding ranged
  held = rw (got read) (go (ltb 0 n) (leb n most))
    where
      go : (a b : Bool) → test 5 a (test 5 b (ok (at_of (n, next)))) ≡ bind (test 5 a (test 5 b (ok n))) (λ v. ok (record { value = v; next = next }))
      go true true = refl
      go true false = refl
      go false b = refl

  pub ranged_over : {e : Refusal} {r : Result (ℕ × ℕ) Refusal} → InRange n most (Err e) → IsErrAnd r (λ d. d ≡ e) → Ranged w most s i r
  ranged_over g h = rw held (stop (λ v. ok (record { value = v; next = next })) g h)

  pub ranged_got : {v : ℕ} → InRange n most (Ok v) → Ranged w most s i (Ok (v, next))
  ranged_got g = record { meets = rw (held, got g); known = (read.known, g.known.1) }

-- the test that a number is not 0
pub is_zero : (v : ℕ) → v ≡ 0 → ltb 0 v ≡ false
is_zero v e = le-ltb 0 v (omega arith)

pub not_zero : (v : ℕ) → (v ≡ 0 → ⊥) → ltb 0 v ≡ true
not_zero v e = lt-ltb 0 v (omega arith)

-- what is left of n turns, at turn k and after the last
pub one_more : (n k : ℕ) → k < n → n - k ≡ suc (n - (k + 1))
one_more n k h = omega arith

pub all_left : (n : ℕ) → n - 0 ≡ n
all_left n = omega arith

pub none_left : (n k : ℕ) → n ≤ k → n - k ≡ 0
none_left n k h = omega arith

-- number k of n, and the distance to the next
pub spaced_next : {w : ℕ} {s : List ℕ} {i d n : ℕ} (k : ℕ) → Spaced w s i d n → k < n → i + k * d + d ≤ length s + (d - w)
spaced_next {d = d} k p h = let e = rw suc-mul at (mul-le-mul_right d h) in omega (arith, e, p.within)

-- an area before the first of the numbers is stored, and after one more
pub filling_none : (w : ℕ) (s : List ℕ) (i d : ℕ) (xs : List ℕ) → Filling w s i d 0 xs xs
filling_none w s i d xs = record { entries_are = column_none w s i d xs; length_kept = refl }

pub filling_more : {w : ℕ} {s : List ℕ} {i d k : ℕ} {before after : List ℕ} {v : ℕ} → Filling w s i d k before after → k < length before
    → v ≡ num w s (i + k * d) → Filling w s i d (k + 1) before (set after k v)
filling_more {w} {s} {i} {d} {k} {before} {after} {v} f h e =
    record {
      entries_are = ap₂ (λ (xs : List ℕ) (x : ℕ). set xs k x) f.entries_are e ∙ column_fill w s i d k before h;
      length_kept = simp length-set f.length_kept;
    }
