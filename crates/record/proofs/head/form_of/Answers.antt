use native.Mathlib.Omega.{arith}
use borrow.Author.Tests.{ne_eqb}
use Rattle.contract.specs.Field.{form_of}
use Rattle.record.proofs.head.form_of.Goals as goal

pub returns-in-1 : goal.returns-in-1
unfolding form_of
returns-in-1 c = record { meets = simp c.in-1.is; known = tt }

pub returns-in-2 : goal.returns-in-2
unfolding form_of
returns-in-2 c = record { meets = simp c.in-2.is; known = tt }

pub returns-in-4 : goal.returns-in-4
unfolding form_of
returns-in-4 c = record { meets = simp c.in-4.is; known = tt }

pub returns-in_default : goal.returns-in_default
unfolding form_of
returns-in_default c =
    let b = c.args.bits in
    record { meets = simp (ne_eqb b 1 (omega arith), ne_eqb b 2 (omega arith), ne_eqb b 4 (omega arith)); known = tt }
