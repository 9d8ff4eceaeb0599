-- The tests of the start, of a state and of a step, by the amounts and the bounds of their places.
use Rattle.std.specs.Prelude.{Bool, ◌&&◌, ℕ, leb, pos, ◌-ℤ◌}
use Rattle.std.specs.Int.Signed.{le_z}
use Rattle.exchange.specs.Deal.{Deal}
use Rattle.exchange.specs.declared.Bounds.{Bounds}

-- the bounds of a place of a deal
abbrev pub bounds_at : Deal → ℕ → Bounds
bounds_at d x = record { lower = d.lower x; upper = d.upper x }

-- whether the start is safe, by P, vs(L), vs(0), vd(L) and vd(0): "P lies from vs(L) − vs(0) to vd(L) − vd(0), both ends included"
unfoldable pub start_test : ℕ → ℕ → ℕ → ℕ → ℕ → Bool
start_test P vs_l vs0 vd_l vd0 = le_z (pos vs_l -ℤ pos vs0) (pos P) && le_z (pos P) (pos vd_l -ℤ pos vd0)

-- whether the state (place, p) lies within the bounds: lower ≤ p ≤ upper and p ≤ P
unfoldable pub within_test : ℕ → Bounds → ℕ → Bool
within_test p at P = le_z at.lower (pos p) && le_z (pos p) at.upper && leb p P

-- whether it is a step from (a, p) to (b, q), by whether b holds the units of a, and the bounds of a and of b; where the start is safe
unfoldable pub step_test : Bool → Bounds → Bounds → ℕ → ℕ → ℕ → Bool
step_test holds a b p q P = holds && leb p q && within_test p a P && within_test p b P && within_test q a P && within_test q b P
