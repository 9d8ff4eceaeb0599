-- Laws of a run of segments. Assumes nothing.
use mathlib.Core.Path.{◌≡◌, refl, sym, ◌∙◌}
use mathlib.Core.Bool.{Bool, true, false}
use mathlib.Core.List.{List}
use Prim.Native.Nat.{ℕ, ◌+◌, ◌-◌, ◌*◌, ◌≤◌, ◌<◌}
use native.Mathlib.Nat.{suc-mul, zero-mul}
use native.Mathlib.Omega.{arith}
use lib.Dec.{leb, eqb}
use lib.ListN.{length}
use Rattle.area.proofs.Laws.{column_length}
use Rattle.contract.specs.Res.{Res, refused, ok, bind, test}
use Rattle.contract.specs.Contract.{Contract, header_of}
use Rattle.contract.specs.Field.{At, Head, ranged}
use Rattle.contract.specs.Parse.{sized}
use Rattle.contract.specs.Segments.{Sums, from, segment, segments, segment_count, segment_contract, segment_body, size, skip}
use Rattle.record.specs.View.Answer.{header_with}
use Rattle.record.specs.View.Segments.{wide, most, Found, found, padded_units, segment_form}
use Rattle.record.specs.View.Spaced.{Spaced}
use Rattle.record.proofs.Laws.{one_more, none_left}
use Rattle.record.proofs.AnswerLaws.{sized_stop}

-- one segment more, one that is refused, and none left
pub segments_next : (p : Bool) (s : List ℕ) (n k : ℕ) (c d : Sums) → k < n → segment p s c ≡ ok d → segments p s (n - k) c ≡ segments p s (n - (k + 1)) d
unfolding segments
segments_next p s n k c d h e = rw (one_more n k h) (simp e)

pub segments_stop : (p : Bool) (s : List ℕ) (n k : ℕ) (c : Sums) {r : ℕ} → k < n → segment p s c ≡ refused r → segments p s (n - k) c ≡ refused r
unfolding segments
segments_stop p s n k c h e = rw (one_more n k h) (simp e)

pub segments_end : (p : Bool) (s : List ℕ) (n k : ℕ) (c : Sums) → n ≤ k → segments p s (n - k) c ≡ ok c
unfolding segments
segments_end p s n k c h = rw none_left

-- the bytes of what is left
pub bytes_next : (n k w : ℕ) → k < n → (n - (k + 1)) * w + w ≡ (n - k) * w
bytes_next n k w h = rw (one_more n k h) (sym (suc-mul (n - (k + 1)) w))

pub bytes_end : (n k w : ℕ) → n ≤ k → (n - k) * w ≡ 0
bytes_end n k w h = rw none_left (zero-mul w)

-- the count of segments is a field of its width and range
pub count_ranged : (p : Bool) (s : List ℕ) (i : ℕ) → segment_count p s i ≡ ranged (wide p) (most p) s i
unfolding segment_count
count_ranged false s i = refl
count_ranged true s i = refl

-- the body of a ladder or of unit prices is the contract of the segments found
pub body_found : (p : Bool) (s : List ℕ) (h : Head) → segment_body p s h ≡ bind (found p s h.next) (λ r. ok (segment_contract p s h r.count r.first))
unfolding segment_body found
body_found p s h = outer (segment_count p s h.next)
  where
    contract : At → Contract
    contract n = segment_contract p s h n.value n.next

    run : At → Sums → Found
    run n c = record { count = n.value; first = n.next; cost = c.cost; value = c.value }

    made : Found → Res Contract
    made r = ok (segment_contract p s h r.count r.first)

    last : (n : At) (c : Sums) (b : Bool) → test 7 b (ok (contract n)) ≡ bind (test 7 b (ok (run n c))) made
    last n c true = refl
    last n c false = refl

    inner : (n : At) (x : Res Sums)
        → bind x (λ c. test 7 (eqb c.at (length s)) (ok (contract n))) ≡ bind (bind x (λ c. test 7 (eqb c.at (length s)) (ok (run n c)))) made
    inner n (refused k) = refl
    inner n (ok c) = last n c (eqb c.at (length s))

    outer : (x : Res At)
        → bind x (λ n. bind (segments p s n.value (from n.next)) (λ c. test 7 (eqb c.at (length s)) (ok (contract n))))
        ≡ bind (bind x (λ n. bind (segments p s n.value (from n.next)) (λ c. test 7 (eqb c.at (length s)) (ok (run n c))))) made
    outer (refused k) = refl
    outer (ok n) = inner n (segments p s n.value (from n.next))

-- what is said of segments that are refused, and of those found
pub said_stopped : (p : Bool) (s : List ℕ) (h : Head) (a b : ℕ) {k : ℕ} → found p s h.next ≡ refused k → sized (segment_body p s h) a b ≡ refused k
said_stopped p s h a b e = sized_stop a b (body_found p s h ∙ rw e)

pub said_found : (p : Bool) (s : List ℕ) (h : Head) (a b : ℕ) (r : Found) → found p s h.next ≡ ok r
    → sized (segment_body p s h) a b ≡ test 8 (leb r.count a) (test 8 (leb r.count b) (ok (segment_contract p s h r.count r.first)))
unfolding sized segment_contract
said_found p s h a b r e = rw (body_found p s h, e) (simp column_length)

-- the costs and values, and the units, of n segments that reach to the record's end
pub spaced_segments : (p : Bool) (s : List ℕ) (first n : ℕ) → first + n * size p ≡ length s → Spaced 8 s (first + skip p) (size p) n
spaced_segments false s first n e = record { apart = omega arith; near = omega arith; within = omega arith }
spaced_segments true s first n e = record { apart = omega arith; near = omega arith; within = omega arith }

pub spaced_units : (p : Bool) (s : List ℕ) (first n : ℕ) → first + n * size p ≡ length s → Spaced 1 s first (size p) n
spaced_units false s first n e = record { apart = omega arith; near = omega arith; within = omega arith }
spaced_units true s first n e = record { apart = omega arith; near = omega arith; within = omega arith }

pub few_segments : (p : Bool) (n : ℕ) → n ≤ most p → n ≤ 1000
few_segments false n h = h
few_segments true n h = omega arith

-- the header of a contract of segments
pub segment_header : (p : Bool) (s : List ℕ) (h : Head) (n i : ℕ) → h.form ≡ segment_form p
    → header_with h n (padded_units p s i n) ≡ header_of (segment_contract p s h n i)
unfolding segment_contract
segment_header false s h n i e = rw (e, column_length)
segment_header true s h n i e = rw (e, column_length)
