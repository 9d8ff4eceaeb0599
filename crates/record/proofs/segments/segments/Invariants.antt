use mathlib.Core.Path.{◌≡◌}
use mathlib.Core.Bool.{Bool}
use Prim.Native.Nat.{◌+◌, ◌-◌, ◌*◌, ◌≤◌}
use denote.Param.{number}
use lib.ListN.{length}
use Rattle.contract.specs.Segments.{segments, size}
use Rattle.record.specs.View.Segments.{sums, Kept}
use Rattle.record.specs.contracts.segments.segments.{PRICED-type}
use Rattle.record.proofs.segments.segments.Given as goal

-- the const parameter
abbrev pub priced : goal.Over → Bool
priced g = PRICED-type (number g.row.PRICED)

-- the segments that are left decide, and reach as far
abbrev pub invariant-loop-k : goal.invariant-loop-k
invariant-loop-k g l =
    (segments (priced g) l.s (l.n - l._k) (sums l.d) ≡ segments (priced g) l.s l.n (sums l.initial.d))
    × ((l.d.at + (l.n - l._k) * size (priced g) ≡ l.initial.d.at + l.n * size (priced g)) × ((l.d.at ≤ length l.s) × Kept (sums l.d)))
