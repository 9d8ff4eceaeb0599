-- Sessions in a byte area. Assumes nothing.
use mathlib.Core.Path.{◌≡◌, refl}
use mathlib.Core.Bool.{Bool, true, false, cond}
use mathlib.Core.List.{List}
use Prim.Native.Nat.{ℕ, ◌≤◌, ◌<◌}
use borrow.Author.Tests.{le-leb, lt-leb}
use lib.ListN.{length, set}
use lib.Seq.{sets}
use mir.Val.{bool_byte}
use Rattle.area.specs.Entries.{digits}
use Rattle.session.specs.Session.{finished_by}
use Rattle.session.specs.declared.Session.{Session}
use Rattle.yolkgorge.specs.SessionBytes.{session_in, mark_byte, stored_bytes}
use Rattle.yolkgorge.specs.Sessions.{finished_in}

-- the marks are stored after the steps passed
pub marks_stored : (s : List ℕ) (p d q : ℕ) {t : List ℕ} → t ≡ sets s 0 (digits 8 p) → set (set t 8 d) 9 q ≡ stored_bytes s p d q
unfolding digits stored_bytes
marks_stored s p d q e = rw e

-- a short area holds no finished session
pub short_finished : (s : List ℕ) (count : ℕ) → length s < 10 → 8 ≡ finished_in s count
unfolding finished_in
short_finished s count h = rw (lt-leb 10 (length s) h)

-- whether the session in an area is finished
pub finished_is : (s : List ℕ) (count : ℕ) (t : Session) (b : Bool) → 10 ≤ length s → t ≡ session_in s → b ≡ finished_by count t
    → bool_byte b ≡ finished_in s count
unfolding finished_in
finished_is s count t b h e f = rw (le-leb 10 (length s) h, ← e, ← f) (go b)
  where
    go : (b : Bool) → bool_byte b ≡ cond b 1 0
    go true = refl
    go false = refl

pub mark_is : (b : Bool) → bool_byte b ≡ mark_byte b
mark_is true = refl
mark_is false = refl
