use mathlib.Core.Path.{◌≡◌, refl, ◌∙◌}
use Prim.Native.Nat.{◌<◌}
use native.Mathlib.Omega.{arith}
use lib.ListN.{get_or, length-take}
use Rattle.std.proofs.lemmas.List.{get_or-take}
use Rattle.search.proofs.NoteLaws.{noting_passed, noting_next, noting_room}
use Rattle.search.proofs.notes.Notes.note.Goals.{then-waits, else-waits}
use Rattle.search.proofs.notes.Notes.note.Goals as goal

pub bounds-self-m : goal.bounds-self-m
bounds-self-m c =
    let i = c.loop-row.row-index in
    let l : i < c.args.n = omega (arith, length-take c.args.n c.args.list.now) in
    let e : c.from-a.result ≡ get_or c.args.list.now i 0 = c.from-a.ensures ∙ get_or-take c.args.n c.args.list.now i 0 l in
    noting_room c.loop-row.invariant c.requires.3 c.from-a.result e (omega (arith, e, c.requires.2 i l)) c.if-waits.true

pub overflow_add-m : goal.overflow_add-m
overflow_add-m c =
    let i = c.loop-row.row-index in
    let l : i < c.args.n = omega (arith, length-take c.args.n c.args.list.now) in
    let e : c.from-a.result ≡ get_or c.args.list.now i 0 = c.from-a.ensures ∙ get_or-take c.args.n c.args.list.now i 0 l in
    omega (arith, noting_room c.loop-row.invariant c.requires.3 c.from-a.result e (omega (arith, e, c.requires.2 i l)) c.if-waits.true)

pub loop-row-preserved : goal.loop-row-preserved
loop-row-preserved c =
    let i = c.loop-row.row-index in
    let l : i < c.args.n = omega (arith, length-take c.args.n c.args.list.now) in
    let e : c.from-a.result ≡ get_or c.args.list.now i 0 = c.from-a.ensures ∙ get_or-take c.args.n c.args.list.now i 0 l in
    let few : c.from-a.result < 128 = omega (arith, e, c.requires.2 i l) in
    elim c.if-waits.branch [
      | then-waits w ↦ rw (w.self-is, w.m-is, ← c.from-a.ensures) (noting_next c.loop-row.invariant c.requires.3 c.from-a.result e few w.if-waits.true _ refl)
      | else-waits w ↦ rw (w.self-is, w.m-is) (noting_passed c.loop-row.invariant c.requires.3 c.from-a.result e w.if-waits.false)
    ]
