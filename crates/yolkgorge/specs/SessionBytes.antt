-- A session in a byte area of ten bytes: the steps passed in eight, little-endian, then a byte for each mark, delivered and paid.
use Rattle.std.specs.Prelude.{Bool, true, false, not, List, [], ◌∷◌, ◌++◌, ℕ, leb, eqb, length, get_or}
use Rattle.std.proofs.lemmas.List.Edits.{sets}
use Rattle.area.specs.Entries.{num, digits}
use Rattle.session.specs.declared.Session.{Session}

-- whether an area has the bytes of a session
abbrev pub has_session : List ℕ → Bool
has_session s = leb 10 (length s)

-- the session in an area: zero is no mark, any other byte is one
unfoldable pub session_in : List ℕ → Session
session_in s = record { passed = num 8 s 0; delivered = not (eqb (get_or s 8 0) 0); paid = not (eqb (get_or s 9 0) 0) }

-- the byte of a mark
abbrev pub mark_byte : Bool → ℕ
mark_byte true = 1
mark_byte false = 0

-- an area with these steps passed and marks in its first ten bytes
unfoldable pub stored_bytes : List ℕ → ℕ → ℕ → ℕ → List ℕ
stored_bytes s passed delivered paid = sets s 0 (digits 8 passed ++ delivered ∷ paid ∷ [])

-- an area with a session stored in its first ten bytes
abbrev pub stored_in : List ℕ → Session → List ℕ
stored_in s t = stored_bytes s t.passed (mark_byte t.delivered) (mark_byte t.paid)
